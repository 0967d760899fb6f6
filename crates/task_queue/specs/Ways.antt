-- From where on a task may be ready.
use Rattle.std.specs.Prelude.{ℕ, ◌≡◌, ◌<◌, Bool, true, false, List, length}
use Rattle.task_queue.specs.Groups.{is_set, number_at}

-- no task below this one is ready
pub record AreBare (ready : List Bool) (low : ℕ) : Type 0 where
  pub each : (t : ℕ) → t < low → is_set ready t ≡ false

-- each of these numbers that has a place is ready, but number 0
pub record AreReady (firsts : List ℕ) (ready : List Bool) : Type 0 where
  pub long : length ready ≡ length firsts
  pub each : (group : ℕ) → group < length firsts → number_at firsts group < length firsts → 0 < number_at firsts group → is_set ready (number_at firsts group) ≡ true
  pub no_task : is_set ready 0 ≡ false
