use Rattle.std.proofs.Common.{◌≡◌, take}
use Rattle.task_text.proofs.task.copy_all.Given as goal

abbrev pub invariant-loop-task : goal.invariant-loop-task
invariant-loop-task l = l.list.items ≡ take l.task-index l.tasks
