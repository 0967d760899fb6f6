use Rattle.std.proofs.Common.{◌≡◌}
use Rattle.std.specs.Prelude.{map}
use Rattle.std.specs.List.{range_with_len}
use Rattle.rehearse_plan.specs.Plans.{task_of}
use Rattle.rehearse_plan.proofs.tasks.tasks_of.Given as goal

-- so many were made
abbrev pub invariant-tasks : goal.invariant-tasks
invariant-tasks l = l.list.items ≡ map (task_of l.initial.seed l.initial.tasks) (range_with_len 1 l.before)
