-- Which tasks are claimed and busy, and which of the others may be free.
use Rattle.std.specs.Prelude.{ℕ, ◌≡◌, ◌⊎◌, ◌+◌, ◌<◌, ◌≤◌, ◌==◌, ◌&&◌, ◌||◌, not, Bool, true, false, List, length, count_by, vec_capacity}
use Rattle.std.specs.List.{list_any}
use Rattle.journal_model.specs.declared.entry.What.{What}
use Rattle.journal_model.specs.declared.entry.What.TheVariants.{Claim, Answer as Answered, Again}
use Rattle.journal_model.specs.declared.entry.Entry.{Entry}
use Rattle.journal_model.specs.declared.opening.Opening.{Opening}
use Rattle.journal_model.specs.Legality.{both_conflict, claimed_after, is_busy, is_claimed, task_of}
use Rattle.task_queue.specs.Groups.{AreGroups, is_set, number_at}
use Rattle.task_queue.specs.Held.{IsHeld}
use Rattle.task_queue.specs.Kept.{AreKept}
use Rattle.task_queue.specs.Blocks.{AreInBlocks}
use Rattle.task_queue.specs.Woken.{AreWatched}
use Rattle.task_queue.specs.declared.alike.By.TheVariants.{Key, File}
use Rattle.task_queue.specs.declared.queue.Queue.{Queue}

-- ---- why a task that isn't claimed needn't be looked at

abbrev pub is_among : List ℕ → ℕ → Bool
is_among busy t = list_any (λ b. b == t) busy

-- it is ready, to be looked at; or it waits for a busy task; or it is held by its key's group, or by its file's
abbrev pub IsPlaced : List ℕ → List ℕ → List ℕ → List ℕ → List Bool → ℕ → Type 0
IsPlaced keys files busy waits ready t =
    (is_set ready t ≡ true) ⊎ ((is_among busy (number_at waits t) ≡ true) ⊎ (IsHeld keys busy ready t ⊎ IsHeld files busy ready t))

pub record ArePlaced (keys files busy waits : List ℕ) (claimed ready : List Bool) : Type 0 where
  pub each : (t : ℕ) → 0 < t → t < length claimed → is_set claimed t ≡ false → IsPlaced keys files busy waits ready t

-- ---- a queue in order

-- only tasks that aren't claimed are ready
pub record AreUnclaimed (claimed ready : List Bool) : Type 0 where
  pub each : (t : ℕ) → is_set ready t ≡ true → is_set claimed t ≡ false

-- each busy number is that of a task
pub record AreTasks (busy : List ℕ) (long : ℕ) : Type 0 where
  pub each : (t : ℕ) → is_among busy t ≡ true → (0 < t) × (t < long)

-- each list has a place for each task, and for 0
pub record AreLong (q : Queue) : Type 0 where
  pub ready : length q.ready.flags.items ≡ length q.claimed.items
  pub waits : length q.waits.items ≡ length q.claimed.items
  pub watched : length q.watched.items ≡ length q.claimed.items

-- number 0, which no task has, counts as claimed
pub record IsOrdered (q : Queue) : Type 0 where
  pub long : AreLong q
  pub keys : AreKept q.claimed.items q.keys
  pub files : AreKept q.claimed.items q.files
  pub blocks : AreInBlocks q.ready.flags.items q.ready.blocks.items
  pub no_task : is_set q.claimed.items 0 ≡ true
  pub busy : AreTasks q.busy.items (length q.claimed.items)
  pub watched : AreWatched q.waits.items q.watched.items
  pub unclaimed : AreUnclaimed q.claimed.items q.ready.flags.items
  pub placed : ArePlaced q.keys.of.items q.files.of.items q.busy.items q.waits.items q.claimed.items q.ready.flags.items

-- there is room for each task that isn't claimed to be busy
pub record HasRoom (q : Queue) : Type 0 where
  pub left : length q.busy.items + count_by not q.claimed.items ≤ length q.claimed.items
  pub room : length q.claimed.items ≤ vec_capacity q.busy

-- ---- what it says of a run

-- it is the queue of the opening's tasks, and each that waits for another one can't be busy at once with it
pub record IsOf (o : Opening) (q : Queue) : Type 0 where
  pub long : length q.claimed.items ≡ length o.tasks + 1
  pub keys : AreGroups Key o q.keys.of.items
  pub files : AreGroups File o q.files.of.items
  pub waits : (t : ℕ) → 0 < number_at q.waits.items t → both_conflict (task_of o (number_at q.waits.items t)) (task_of o t) ≡ true

-- it says which tasks are claimed and busy
pub record IsSaid (past : List Entry) (q : Queue) : Type 0 where
  pub claimed : (t : ℕ) → 0 < t → t < length q.claimed.items → is_set q.claimed.items t ≡ is_claimed past t
  pub busy : (t : ℕ) → is_among q.busy.items t ≡ is_busy past t

-- it is the queue of the opening's tasks after the journal
pub record IsQueued (o : Opening) (past : List Entry) (q : Queue) : Type 0 where
  pub ordered : IsOrdered q
  pub roomy : HasRoom q
  pub fits : IsOf o q
  pub said : IsSaid past q

-- after the change the queue is in order and has room, and it is that of the opening if it was
pub record IsSound (old new : Queue) : Type 0 where
  pub ordered : IsOrdered new
  pub room : HasRoom new
  pub fits : (o : Opening) → IsOf o old → IsOf o new

-- ---- what comes next

-- what the entry makes of whether the task is busy
abbrev pub busy_after : ℕ → Bool → What → Bool
busy_after t before (Claim task child) = before || task == t
busy_after t before (Answered task answer) = before && not (task == t)
busy_after t before (Again task answer) = before && not (task == t)
busy_after t before w = before

-- a task that isn't claimed is claimed, or one that is busy is let go
abbrev pub IsNext : What → Queue → Type 0
IsNext (Claim task child) q = (0 < task) × (task < length q.claimed.items) × (is_set q.claimed.items task ≡ false)
IsNext (Answered task answer) q = is_among q.busy.items task ≡ true
IsNext (Again task answer) q = is_among q.busy.items task ≡ true
IsNext w q = Unit {0}

-- the entries say of each task what the past does, changed by the entry
pub record IsTurned (past : List Entry) (w : What) (after : List Entry) : Type 0 where
  pub claimed : (t : ℕ) → is_claimed after t ≡ claimed_after t (is_claimed past t) w
  pub busy : (t : ℕ) → is_busy after t ≡ busy_after t (is_busy past t) w
