-- Tasks of the same key are a group, and so are those that name the same file. What is kept of groups, by the numbers of tasks.
use Rattle.std.specs.Prelude.{ℕ, ◌≡◌, ◌+◌, ◌<◌, ◌≤◌, Bool, false, List, [], length, Option, Some, None}
use Rattle.std.specs.List.{slice_index_or}
use Rattle.task_text.specs.declared.task.Task.{Task}
use Rattle.journal_model.specs.declared.opening.Opening.{Opening}
use Rattle.journal_model.specs.Legality.{task_of}
use Rattle.task_queue.specs.declared.alike.By.{By}
use Rattle.task_queue.specs.declared.alike.By.TheVariants.{Key, File}

-- the number at a place, which is 0 past the end
abbrev pub number_at : List ℕ → ℕ → ℕ
number_at numbers t = slice_index_or numbers t 0

-- the flag at a place is up; past the end none is
abbrev pub is_set : List Bool → ℕ → Bool
is_set flags t = slice_index_or flags t false

-- the text by which a task is of a group; an empty one makes no group
abbrev pub text_of : By → Task → List ℕ
text_of Key task = task.key
text_of File task = task.file

abbrev pub text_at : By → Option Task → List ℕ
text_at by None = []
text_at by (Some task) = text_of by task

-- what the tasks of one group have in common: their text, or the number of the only one, whose text is empty
pub data Badge : Type 0 where
  Text : List ℕ → Badge
  Alone : ℕ → Badge

abbrev pub badge_by : ℕ → List ℕ → Badge
badge_by t [] = Alone t
badge_by t text = Text text

abbrev pub badge_in : By → ℕ → Option Task → Badge
badge_in by t None = Alone 0
badge_in by t (Some task) = badge_by t (text_of by task)

abbrev pub badge_of : By → Opening → ℕ → Badge
badge_of by o t = badge_in by t (task_of o t)

-- each task has the number of its group, which is that of a task of the group
pub record AreGroups (by : By) (o : Opening) (groups : List ℕ) : Type 0 where
  pub long : length groups ≡ length o.tasks + 1
  pub alike : (t : ℕ) → badge_of by o (number_at groups t) ≡ badge_of by o t

-- each number of a group is that of a task, or 0
pub record AreWithin (groups : List ℕ) : Type 0 where
  pub each : (t : ℕ) → t < length groups → number_at groups t < length groups

-- No task of the group from low on that isn't claimed comes before the first number, which is one of the group or past the end.
pub record IsFirst (groups : List ℕ) (claimed : List Bool) (group low first : ℕ) : Type 0 where
  pub above : low ≤ first
  pub least : (t : ℕ) → low ≤ t → t < length groups → number_at groups t ≡ group → is_set claimed t ≡ false → first ≤ t
  pub own : first < length groups → number_at groups first ≡ group

-- the table says of each task which one is the next of its group
pub record AreNext (groups next : List ℕ) : Type 0 where
  pub each : (t : ℕ) → t < length groups → IsFirst groups [] (number_at groups t) (t + 1) (number_at next t)

-- the table says of each group from where on a task of it may be unclaimed
pub record AreFirsts (groups : List ℕ) (claimed : List Bool) (firsts : List ℕ) : Type 0 where
  pub long : length firsts ≡ length groups
  pub each : (group : ℕ) → group < length groups → IsFirst groups claimed group 0 (number_at firsts group)

-- both tables are right for the tasks from this one on, while none is claimed
pub record AreChained (groups next firsts : List ℕ) (from : ℕ) : Type 0 where
  pub long : length next ≡ length groups
  pub firsts_long : length firsts ≡ length groups
  pub each_next : (t : ℕ) → from ≤ t → t < length groups → IsFirst groups [] (number_at groups t) (t + 1) (number_at next t)
  pub each_first : (group : ℕ) → group < length groups → IsFirst groups [] group from (number_at firsts group)
