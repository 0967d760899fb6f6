use Rattle.std.proofs.Common.{◌≡◌, true}
use Rattle.task_model.specs.Askers.{are_layouts}
use Rattle.desk_tests.proofs.tasks.trial.layouts_of.Given as goal

abbrev pub invariant-loop-layout : goal.invariant-loop-layout
invariant-loop-layout l = are_layouts l.list.items ≡ true
