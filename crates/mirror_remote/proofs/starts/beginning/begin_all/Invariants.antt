use Rattle.std.proofs.Common.{◌≡◌, ◌≤◌, take, vec_len, vec_capacity}
use Rattle.mirror_remote.specs.Starts.Beginnings.{BegunAll}
use Rattle.mirror_remote.proofs.starts.beginning.begin_all.Given as goal

-- the children of the plans so far are ready
abbrev pub invariant-loop-plan : goal.invariant-loop-plan
invariant-loop-plan g l = record {
  begun : BegunAll (take l.plan-index l.plans) (g.P.Programs.told l.fn.programs) (g.P.Programs.told l.programs) l.children.items;
  later : (g.P.Programs.told l.fn.programs).faults ≤ (g.P.Programs.told l.programs).faults;
  many : vec_len l.children ≡ l.plan-index;
  room : vec_capacity l.children ≡ vec_capacity l.fn.children;
}
