use Rattle.std.proofs.Common.{◌≡◌, ◌-◌, ◌<◌, length}
use Rattle.task_queue.specs.Queues.{IsOf, IsOrdered}
use Rattle.task_queue.specs.Ways.{AreBare}
use Rattle.task_queue.proofs.queue.Queue.first_free.Given as goal

abbrev pub invariant-loop-task : goal.invariant-loop-task
invariant-loop-task l = record {
  some : 0 < l.from;
  ordered : IsOrdered l.self;
  fits : IsOf l.opening l.self;
  claimed : l.self.claimed ≡ l.initial.self.claimed;
  busy : l.self.busy ≡ l.initial.self.busy;
  bare : AreBare l.self.ready.flags.items l.from;
}

abbrev pub decreases-loop-task : goal.decreases-loop-task
decreases-loop-task l = length l.self.claimed.items - l.from
