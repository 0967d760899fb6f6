-- What a desk's files hold after a get that is answered Got, where its calls were played on them.
use Rattle.std.specs.Prelude.{ℕ, ◌≡◌, not, Bool, true, false, List, filter, Some, None, bytes_eq}
use Rattle.std.specs.List.{list_all}
use Rattle.ann_key.specs.Keys.{Parts, key_reading}
use Rattle.ann_digest.specs.Fits.{FitsKey}
use Rattle.ann_outside.specs.Files.{Files, content}
use Rattle.ann_outside.specs.Played.{Played}
use Rattle.ann_outside.specs.declared.file_desk.Call.{Call}
use Rattle.ann_outside.specs.declared.file_desk.Call.TheVariants.{Size, ReadAt, Append, Rename}
use Rattle.journal_model.specs.declared.answer.Answer.TheVariants.{Got}
use Rattle.task_text.specs.declared.task.Task.{Task}
use Rattle.task_model.specs.Askers.{Asking, Noting}
use Rattle.task_model.specs.declared.setup.Setup.{Setup}
use Rattle.task_model.specs.declared.turn.TaskTurn.{TaskTurn}
use Rattle.task_model.specs.Names.{part_of}
use Rattle.task_model.specs.Gets.{checked, since_begin}
use Rattle.task_model.specs.Reads.{is_call_of}
use Rattle.task_model.specs.Runs.{TaskRun}
use Rattle.task_model.specs.RunLaws.{sizes_got}
use Rattle.run_starts.specs.TaskLaws.Contents.{Shows}
use Rattle.run_starts.specs.TaskLaws.Kept.{is_afresh}

-- the file holds what was checked, which fits the key
pub record HoldsChecked (setup : Setup) (t : TaskTurn) (key : Parts) (sizes : List ℕ) (file : List ℕ) (asked : List Asking) (calls : List Call) (new : Files) : Type 0 where
  pub holds : content file new ≡ Some (checked setup t file sizes asked calls)
  pub fits : FitsKey key (checked setup t file sizes asked calls)

-- Whatever its file and part held before: a get that is answered Got leaves in its file what it checked, which fits the key.
abbrev pub GotHolds : Type 0
GotHolds =
    (task : Task) (t : TaskTurn) (setup : Setup) (layouts : List (ℕ × ℕ)) (asked : List Asking) (calls : List Call) (noted : List Noting) (key : Parts) (old new : Files)
    → key_reading task.key ≡ Some key → TaskRun task t setup layouts asked calls noted Got → Played calls old new
    → HoldsChecked setup t key (sizes_got task.work key layouts) task.file asked calls new

-- the call leaves the file as it is
abbrev pub leaves : List ℕ → Call → Bool
leaves name (Size other answer) = true
leaves name (ReadAt other from answer) = true
leaves name call = not (is_call_of name call)

-- Calls that leave a file as it is show what it held before them, and it holds that after them.
abbrev pub LeftShows : Type 0
LeftShows =
    (name bytes : List ℕ) (calls : List Call) (old new : Files) → list_all (leaves name) calls ≡ true → Played calls old new → content name old ≡ Some bytes
    → Shows name bytes calls × (content name new ≡ Some bytes)

-- ---- a get that found no part

-- the call may put bytes into the file
abbrev pub fills : List ℕ → Call → Bool
fills name (Append other piece answer) = bytes_eq other name
fills name (Rename from to answer) = bytes_eq to name
fills name call = false

-- Part was missing before the task, and all calls that may put bytes into it came after the begin of the layout that was tried last.
pub record HasNoPart (file : List ℕ) (calls : List Call) (old : Files) : Type 0 where
  pub missing : content (part_of file) old ≡ None
  pub filled_last : filter (fills (part_of file)) calls ≡ filter (fills (part_of file)) (since_begin file calls)

-- A get that is answered Got and had no part began afresh.
abbrev pub NoPartIsAfresh : Type 0
NoPartIsAfresh =
    (task : Task) (t : TaskTurn) (setup : Setup) (layouts : List (ℕ × ℕ)) (asked : List Asking) (calls : List Call) (noted : List Noting) (key : Parts) (old new : Files)
    → key_reading task.key ≡ Some key → TaskRun task t setup layouts asked calls noted Got → Played calls old new → HasNoPart task.file calls old
    → is_afresh (sizes_got task.work key layouts) task.file asked calls ≡ true
