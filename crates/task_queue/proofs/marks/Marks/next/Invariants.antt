use Rattle.std.proofs.Common.{◌≡◌, ℕ, ◌-◌, ◌<◌, ◌≤◌, false, length}
use Rattle.task_queue.specs.Groups.{is_set}
use Rattle.task_queue.proofs.marks.Marks.next.Given as goal

abbrev pub invariant-loop-place : goal.invariant-loop-place
invariant-loop-place l = record {
  from_on : l.from ≤ l.place;
  bare : (t : ℕ) → l.from ≤ t → t < l.place → is_set l.self.flags.items t ≡ false;
}

abbrev pub decreases-loop-place : goal.decreases-loop-place
decreases-loop-place l = length l.self.flags.items - l.place
