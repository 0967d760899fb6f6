use Rattle.std.proofs.Common.{[], ◌∷◌, ◌≡◌, ◌≤◌, true, vec_len, vec_capacity}
use Rattle.child_life.specs.Start.Cores.{IsSameCore}
use Rattle.run_starts.specs.Stints.{Kept}
use Rattle.run_children.specs.Starts.{JobsBetween}
use Rattle.run_children.proofs.alone.start_all.Given as goal

abbrev pub invariant-children : goal.invariant-children
invariant-children g l = record {
  between : JobsBetween l.initial.core.opening l.setting.plan.now.setup l.setting.plan.now.offers l.setting.plan.now.starts l.made l.offer l.core.journal (g.K.Desk.told l.initial.desk ∷ []) (g.K.Desk.told l.desk ∷ []) true;
  kept : Kept l.setting.plan.now.program l.core.journal (g.P.Programs.told l.initial.programs) (g.P.Programs.told l.programs)
      l.wires.items;
  core : IsSameCore l.initial.core l.core;
  room : (vec_len l.wires ≤ l.made) × (vec_capacity l.wires ≡ vec_capacity l.initial.wires);
}
