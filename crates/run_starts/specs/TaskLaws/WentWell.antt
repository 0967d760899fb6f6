-- What is so of a task that went well from outside, and how it is answered then. Each part speaks of what was asked and called alone.
use Rattle.std.specs.Prelude.{ℕ, ◌≡◌, ◌⊎◌, ◌&&◌, ◌||◌, nat_lt, nat_le, Bool, true, false, List, [], ◌∷◌, length, Option, Some, None, Result, Ok, Err, bytes_eq, count_by}
use Rattle.std.specs.List.{list_all}
use Rattle.ann_key.specs.Keys.{Parts, key_reading}
use Rattle.ann_digest.specs.Fits.{FitsKey}
use Rattle.ann_outside.specs.declared.file_desk.DeskError.{DeskError}
use Rattle.ann_outside.specs.declared.file_desk.DeskError.TheVariants.{Failed, Missing, NoMemory}
use Rattle.ann_outside.specs.declared.file_desk.Call.{Call}
use Rattle.ann_outside.specs.declared.file_desk.Call.TheVariants.{Size, ReadAt, Create, Append, Cut, Rename, Remove}
use Rattle.journal_model.specs.declared.verdict.Verdict.{Verdict}
use Rattle.journal_model.specs.declared.verdict.Verdict.TheVariants.{Done as DoneAt, Absent as AbsentAt, Unknown as UnknownAt, Unsupported as UnsupportedAt}
use Rattle.journal_model.specs.declared.answer.Answer.{Answer}
use Rattle.journal_model.specs.declared.answer.Answer.TheVariants.{Stored, Got, Present, Dropped, Renamed, Memory}
use Rattle.task_text.specs.declared.task.Task.{Task}
use Rattle.task_text.specs.declared.task.Work.{Work}
use Rattle.task_text.specs.declared.task.Work.TheVariants as W
use Rattle.task_model.specs.Askers.{Asking, Noting}
use Rattle.task_model.specs.declared.setup.Setup.{Setup}
use Rattle.task_model.specs.declared.turn.TaskTurn.{TaskTurn}
use Rattle.task_model.specs.Stops.{is_done, is_question, is_store}
use Rattle.task_model.specs.Names.{part_of}
use Rattle.task_model.specs.Layouts.{sizes_tried}
use Rattle.task_model.specs.Reads.{lengths_found, reads_of, is_reading}
use Rattle.task_model.specs.Stores.{is_size}
use Rattle.task_model.specs.Gets.{lengths_at_begin, asked_last, first_asked, parts_last, is_plain_last, end_held, held_reads, checked, wrong_lengths, are_read_whole}
use Rattle.task_model.specs.Ran.{is_of_content}
use Rattle.task_model.specs.Runs.{TaskRun}

-- ---- what was asked

-- a verdict that a question can have over a child that isn't gone: its key is there, isn't, or it isn't known, or the question isn't
abbrev pub is_told : Verdict → Bool
is_told (DoneAt at) = true
is_told (AbsentAt at) = true
is_told (UnknownAt at) = true
is_told (UnsupportedAt at) = true
is_told v = false

-- The request was done. What a store asks before it stores may be answered in any way.
abbrev pub is_asked_well : Work → Asking → Bool
is_asked_well work a = is_done a || (is_store work && is_question a && is_told a.verdict)

-- ---- what the desk answered

abbrev pub error_of : {T : Type 0} → Result T DeskError → Option DeskError
error_of (Ok x) = None
error_of (Err e) = Some e

abbrev pub error_in : Call → Option DeskError
error_in (Size name answer) = error_of answer
error_in (ReadAt name from answer) = error_of answer
error_in (Create name answer) = error_of answer
error_in (Append name piece answer) = error_of answer
error_in (Cut name size answer) = error_of answer
error_in (Rename from to answer) = error_of answer
error_in (Remove name answer) = error_of answer

-- the call looks part up, or removes it
abbrev pub may_miss : List ℕ → Call → Bool
may_miss part (Size name answer) = bytes_eq name part
may_miss part (Remove name answer) = bytes_eq name part
may_miss part call = false

abbrev pub is_borne : Bool → Option DeskError → Bool
is_borne missing None = true
is_borne missing (Some Failed) = false
is_borne missing (Some Missing) = missing
is_borne missing (Some NoMemory) = true

-- the call didn't fail, and missed no file; but part may be missing where it is looked up or removed
abbrev pub is_called_well : List ℕ → Call → Bool
is_called_well part call = is_borne (may_miss part call) (error_in call)

-- ---- what was found

-- a read from before the size brought bytes
abbrev pub is_read_within : Option ℕ → ℕ × List ℕ → Bool
is_read_within None read = true
is_read_within (Some size) read = nat_lt 0 (length read.1) || nat_le size read.0

-- the file to store has the size that its key says, where it says one: that length is found, and no read comes to an end before
pub record IsFileWhole (key : Parts) (file : List ℕ) (calls : List Call) : Type 0 where
  pub lengths : list_all (is_size key.size) (lengths_found file calls) ≡ true
  pub reads : list_all (is_read_within key.size) (reads_of file calls) ≡ true

-- all that the last layout asks for is there, and was read, and so was all of it that part held
pub record HasReadAll (setup : Setup) (t : TaskTurn) (key : Parts) (sizes : List ℕ) (file : List ℕ) (asked : List Asking) (calls : List Call) : Type 0 where
  pub done : count_by is_done (asked_last asked) ≡ length (parts_last key sizes (lengths_at_begin file calls) asked)
  pub held : (is_plain_last sizes asked || is_reading 0 (end_held key sizes (lengths_at_begin file calls) asked) (held_reads file calls)) ≡ true
  pub fetched : are_read_whole setup t calls (first_asked asked) (asked_last asked) ≡ true

-- Each file that was fetched has the length that its range asks for. What was read in all, once that is whole, fits the key.
pub record IsSentWell (setup : Setup) (t : TaskTurn) (key : Parts) (sizes : List ℕ) (file : List ℕ) (asked : List Asking) (calls : List Call) : Type 0 where
  pub lengths : wrong_lengths setup t key.size calls (first_asked asked) (parts_last key sizes (lengths_at_begin file calls) asked) ≡ []
  pub fits : HasReadAll setup t key sizes file asked calls → FitsKey key (checked setup t file sizes asked calls)

abbrev pub IsFoundWell : Setup → TaskTurn → Task → Parts → List (ℕ × ℕ) → Work → List Asking → List Call → Type 0
IsFoundWell setup t task key layouts W.Store asked calls = IsFileWhole key task.file calls
IsFoundWell setup t task key layouts W.Get asked calls = IsSentWell setup t key (sizes_tried key layouts) task.file asked calls
IsFoundWell setup t task key layouts W.Check asked calls = Unit {0}
IsFoundWell setup t task key layouts W.Drop asked calls = Unit {0}
IsFoundWell setup t task key layouts W.XStore asked calls = IsFileWhole key task.file calls
IsFoundWell setup t task key layouts W.XGet asked calls = IsSentWell setup t key (0 ∷ []) task.file asked calls
IsFoundWell setup t task key layouts W.XCheck asked calls = Unit {0}
IsFoundWell setup t task key layouts W.XDrop asked calls = Unit {0}
IsFoundWell setup t task key layouts W.XRename asked calls = Unit {0}

-- ---- a task that went well

-- What its desk answered, and what was found there.
pub record DeskWentWell (setup : Setup) (t : TaskTurn) (task : Task) (key : Parts) (layouts : List (ℕ × ℕ)) (asked : List Asking) (calls : List Call) : Type 0 where
  pub called : list_all (is_called_well (part_of task.file)) calls ≡ true
  pub found : IsFoundWell setup t task key layouts task.work asked calls

-- Each request was done, and all went well at its desk.
pub record WentWell (setup : Setup) (t : TaskTurn) (task : Task) (key : Parts) (layouts : List (ℕ × ℕ)) (asked : List Asking) (calls : List Call) : Type 0 where
  pub asked_well : list_all (is_asked_well task.work) asked ≡ true
  pub desk : DeskWentWell setup t task key layouts asked calls

-- the answer that says that the work was done
abbrev pub success_of : Work → Answer
success_of W.Store = Stored
success_of W.Get = Got
success_of W.Check = Present
success_of W.Drop = Dropped
success_of W.XStore = Stored
success_of W.XGet = Got
success_of W.XCheck = Present
success_of W.XDrop = Dropped
success_of W.XRename = Renamed

-- the task's success, or running out of memory
abbrev pub IsSuccess : Work → Answer → Type 0
IsSuccess work answer = (answer ≡ success_of work) ⊎ (answer ≡ Memory)

-- A task that went well from outside is answered by its success, or says that memory ran out.
abbrev pub WellIsSuccess : Type 0
WellIsSuccess =
    (task : Task) (t : TaskTurn) (setup : Setup) (layouts : List (ℕ × ℕ)) (asked : List Asking) (calls : List Call) (noted : List Noting) (answer : Answer) (key : Parts)
    → key_reading task.key ≡ Some key → WentWell setup t task key layouts asked calls
    → TaskRun task t setup layouts asked calls noted answer → IsSuccess task.work answer

-- Whatever its desk answered: a task whose requests were done, and which found what it should, is answered so, or by a call that was refused.
abbrev pub WellUnlessRefused : Type 0
WellUnlessRefused =
    (task : Task) (t : TaskTurn) (setup : Setup) (layouts : List (ℕ × ℕ)) (asked : List Asking) (calls : List Call) (noted : List Noting) (answer : Answer) (key : Parts)
    → key_reading task.key ≡ Some key → list_all (is_asked_well task.work) asked ≡ true → IsFoundWell setup t task key layouts task.work asked calls
    → TaskRun task t setup layouts asked calls noted answer → IsSuccess task.work answer ⊎ (is_of_content answer ≡ false)
