-- Tasks that wait for others, and for one that is let go.
use Rattle.std.specs.Prelude.{ℕ, ◌≡◌, ◌⊎◌, ◌<◌, Bool, true, false, List, length}
use Rattle.task_queue.specs.Groups.{is_set, number_at}

-- each task that another waits for is watched
pub record AreWatched (waits : List ℕ) (watched : List Bool) : Type 0 where
  pub each : (t : ℕ) → 0 < number_at waits t → is_set watched (number_at waits t) ≡ true

-- each below the number that waits for the task and isn't claimed is ready, with those that were, and no others
pub record AreWoken (waits : List ℕ) (claimed : List Bool) (task number : ℕ) (old new : List Bool) : Type 0 where
  pub long : length new ≡ length old
  pub kept : (t : ℕ) → is_set old t ≡ true → is_set new t ≡ true
  pub woken : (t : ℕ) → t < number → t < length old → number_at waits t ≡ task → is_set claimed t ≡ false → is_set new t ≡ true
  pub others : (t : ℕ) → is_set new t ≡ true → (is_set old t ≡ true) ⊎ (is_set claimed t ≡ false)
