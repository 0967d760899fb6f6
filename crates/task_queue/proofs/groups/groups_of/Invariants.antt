use Rattle.std.proofs.Common.{◌≤◌, length}
use Rattle.task_queue.specs.Groups.{AreChained}
use Rattle.task_queue.proofs.groups.groups_of.Given as goal

abbrev pub invariant-loop-task : goal.invariant-loop-task
invariant-loop-task l = record {
  within : l.task ≤ length l.of.items;
  chained : AreChained l.of.items l.next.items l.firsts.items l.task;
}

abbrev pub decreases-loop-task : goal.decreases-loop-task
decreases-loop-task l = l.task
