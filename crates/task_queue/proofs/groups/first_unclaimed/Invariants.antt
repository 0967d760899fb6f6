use Rattle.std.proofs.Common.{ℕ, ◌-◌, length}
use Rattle.task_queue.specs.Groups.{IsFirst}
use Rattle.task_queue.proofs.groups.first_unclaimed.Given as goal

abbrev pub invariant-tasks : goal.invariant-tasks
invariant-tasks l = (group low : ℕ) → IsFirst l.groups.of.items l.claimed group low l.from → IsFirst l.groups.of.items l.claimed group low l.task

abbrev pub decreases-tasks : goal.decreases-tasks
decreases-tasks l = length l.claimed - l.task
