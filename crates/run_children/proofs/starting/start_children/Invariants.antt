use Rattle.std.proofs.Common.{map, ◌≡◌, ◌≤◌, ◌*◌, true, vec_len, vec_capacity}
use Rattle.child_life.specs.Start.Cores.{IsSameCore}
use Rattle.run_starts.specs.Stints.{Kept}
use Rattle.run_children.specs.Starts.{JobsBetween}
use Rattle.run_children.proofs.starting.start_children.Given as goal

abbrev pub invariant-children : goal.invariant-children
invariant-children g l = record {
  between : JobsBetween l.initial.bench.core.opening l.setting.plan.now.setup l.setting.plan.now.offers l.setting.plan.now.starts l.made l.offer l.bench.core.journal (map g.K.Desk.told l.initial.bench.desks.items) (map g.K.Desk.told l.bench.desks.items) true;
  kept : Kept l.setting.plan.now.program l.bench.core.journal (g.P.Programs.told l.initial.programs) (g.P.Programs.told l.programs)
      l.wires.items;
  core : IsSameCore l.initial.bench.core l.bench.core;
  room : (vec_len l.wires ≤ l.made * vec_len l.initial.bench.desks) × (vec_capacity l.wires ≡ vec_capacity l.initial.wires);
}
