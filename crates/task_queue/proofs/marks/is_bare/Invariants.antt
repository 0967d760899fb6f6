use Rattle.std.proofs.Common.{◌≡◌, ℕ, ◌*◌, ◌<◌, ◌≤◌, false}
use Rattle.task_queue.specs.Groups.{is_set}
use Rattle.task_queue.proofs.marks.is_bare.Given as goal

abbrev pub invariant-loop-place : goal.invariant-loop-place
invariant-loop-place l = (t : ℕ) → l.block * 256 ≤ t → t < l.place → is_set l.flags t ≡ false
