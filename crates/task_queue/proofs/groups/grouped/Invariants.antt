use Rattle.task_queue.specs.Groups.{AreGroups, AreWithin}
use Rattle.task_queue.proofs.groups.grouped.Given as goal

abbrev pub invariant-loop-task : goal.invariant-loop-task
invariant-loop-task l = AreGroups l.by l.opening l.groups.items × AreWithin l.groups.items
