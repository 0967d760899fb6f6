use Rattle.std.proofs.Common.{◌≡◌, ℕ, ◌<◌, length}
use Rattle.task_queue.specs.Groups.{number_at}
use Rattle.task_queue.proofs.groups.numbers_of.Given as goal

abbrev pub invariant-loop-number : goal.invariant-loop-number
invariant-loop-number l = record {
  long : length l.numbers.items ≡ l.number;
  own : (t : ℕ) → t < l.number → number_at l.numbers.items t ≡ t;
}
