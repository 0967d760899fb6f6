-- Tasks that a busy one, or a ready one before them, of their group stands for.
use Rattle.std.specs.Prelude.{ℕ, ◌≡◌, ◌⊎◌, ◌<◌, ◌≤◌, ◌==◌, Bool, true, false, List, length}
use Rattle.std.specs.List.{list_any}
use Rattle.task_queue.specs.Groups.{is_set, number_at}

-- a busy task is of the task's group
abbrev pub is_group_busy : List ℕ → List ℕ → ℕ → Bool
is_group_busy groups busy t = list_any (λ b. number_at groups b == number_at groups t) busy

-- a task before it of its group is ready
pub record HasReadyBefore (groups : List ℕ) (ready : List Bool) (t : ℕ) : Type 0 where
  pub number : ℕ
  pub before : number < t
  pub marked : is_set ready number ≡ true
  pub same : number_at groups number ≡ number_at groups t

abbrev pub IsHeld : List ℕ → List ℕ → List Bool → ℕ → Type 0
IsHeld groups busy ready t = (is_group_busy groups busy t ≡ true) ⊎ HasReadyBefore groups ready t

-- Unless the group is held, each of its tasks from low on that isn't claimed is ready, or one before it is. Only unclaimed tasks from low on are ready that weren't.
pub record IsHandedOn (groups : List ℕ) (claimed : List Bool) (group low : ℕ) (held : Bool) (old new : List Bool) : Type 0 where
  pub long : length new ≡ length old
  pub kept : (t : ℕ) → is_set old t ≡ true → is_set new t ≡ true
  pub others : (t : ℕ) → is_set new t ≡ true → (is_set old t ≡ true) ⊎ ((low ≤ t) × (is_set claimed t ≡ false))
  pub first : held ≡ false → (t : ℕ) → low ≤ t → t < length groups → t < length old → is_set claimed t ≡ false → number_at groups t ≡ group
      → (is_set new t ≡ true) ⊎ HasReadyBefore groups new t
