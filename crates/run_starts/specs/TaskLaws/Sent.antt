-- What a store in chunks sends of its file.
use Rattle.std.specs.Prelude.{ℕ, ◌≡◌, true, List, Contains, Some, None}
use Rattle.std.specs.List.{slice_range}
use Rattle.ann_key.specs.Keys.{Parts, key_reading}
use Rattle.ann_outside.specs.declared.file_desk.Call.{Call}
use Rattle.annex_model.specs.Messages.{Transfer}
use Rattle.task_text.specs.Layouts.Layouts.{Part}
use Rattle.journal_model.specs.declared.answer.Answer.{Answer}
use Rattle.task_text.specs.declared.task.Task.{Task}
use Rattle.task_text.specs.declared.task.Work.TheVariants as W
use Rattle.task_model.specs.Askers.{Asking, Noting}
use Rattle.task_model.specs.declared.setup.Setup.{Setup}
use Rattle.task_model.specs.declared.turn.TaskTurn.{TaskTurn}
use Rattle.task_model.specs.Layouts.{parts_of_layout}
use Rattle.task_model.specs.Reads.{holds}
use Rattle.task_model.specs.Runs.{TaskRun, is_chunked}
use Rattle.run_starts.specs.TaskLaws.Contents.{Shows}

-- the file holds the content's bytes in the range of the chunk with this key, and no others
pub record IsRangeSent (setup : Setup) (key : Parts) (content : List ℕ) (calls : List Call) (text file : List ℕ) : Type 0 where
  pub part : Part
  pub there : Contains (parts_of_layout key setup.chunk) part
  pub keyed : key_reading text ≡ Some part.key
  pub bytes : holds file None calls ≡ Some (slice_range content part.from part.to)

-- Whatever its file's content, as its calls show it: a store in chunks stores each chunk from a file that holds the chunk's range of it.
abbrev pub ChunksAreRanges : Type 0
ChunksAreRanges =
    (task : Task) (t : TaskTurn) (setup : Setup) (layouts : List (ℕ × ℕ)) (asked : List Asking) (calls : List Call) (noted : List Noting) (answer : Answer) (key : Parts) (content : List ℕ)
    (a : Asking) (text file : List ℕ)
    → key_reading task.key ≡ Some key → task.work ≡ W.Store → is_chunked setup key ≡ true → TaskRun task t setup layouts asked calls noted answer
    → Shows task.file content calls → Contains asked a → a.request ≡ Some (Transfer true text file) → IsRangeSent setup key content calls text file
