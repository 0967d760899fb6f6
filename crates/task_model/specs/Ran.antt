-- What one call of run_task did.
use Rattle.std.specs.Prelude.{ℕ, ◌≡◌, ◌≤◌, ◌+◌, ◌⊎◌, Bool, true, false, List, [], ◌++◌, length, map, Option, Some, None, Result, Ok, Err}
use Rattle.ann_key.specs.declared.bytes.NoMemory.{NoMemory}
use Rattle.journal_model.specs.declared.verdict.Verdict.{Verdict}
use Rattle.journal_model.specs.declared.verdict.Verdict.TheVariants.{Done as DoneAt, Failed as FailedAt, Absent as AbsentAt, Unknown as UnknownAt, Unsupported as UnsupportedAt, Ended, Unsent}
use Rattle.annex_model.specs.Messages.{HostMessage, Checkpresent, Checkpresentexport}
use Rattle.task_text.specs.declared.task.Task.{Task}
use Rattle.task_text.specs.declared.task.Work.{Work}
use Rattle.task_text.specs.declared.task.Work.TheVariants.{Store, Drop}
use Rattle.ann_outside.specs.Causes.{Rose}
use Rattle.ann_outside.specs.DeskCauses.{Counts}
use Rattle.ann_outside.specs.Calls.{Log, Gained}
use Rattle.ann_outside.specs.declared.file_desk.Call.{Call}
use Rattle.ann_outside.specs.declared.file_desk.DeskError.{DeskError}
use Rattle.ann_outside.specs.declared.file_desk.DeskError.TheVariants as E
use Rattle.task_model.specs.Askers.{Asking, Noting}
use Rattle.journal_model.specs.declared.answer.Answer.{Answer}
use Rattle.journal_model.specs.declared.answer.Answer.TheVariants.{Size, Hash, Unsupported, Unsent as UnsentAnswer, Ended as EndedAnswer, Memory, Failed, FileFault, NoFile}
use Rattle.task_model.specs.declared.setup.Setup.{Setup}
use Rattle.task_model.specs.declared.turn.TaskTurn.{TaskTurn}
use Rattle.ann_key.specs.Keys.{Parts, key_reading}
use Rattle.task_model.specs.Runs.{TaskRun, is_chunked}

-- running out of memory is an answer, as the task's other ends
abbrev pub answered : Result Answer NoMemory → Answer
answered (Ok answer) = answer
answered (Err e) = Memory

-- a note that counts the requests from another begin
abbrev pub behind_more : ℕ → Noting → Noting
behind_more n note = record { chunk = note.chunk; count = note.count; behind = n + note.behind }

-- The pairs, the notes and, where it is kept, the log grew by those of one run of the task.
pub record Ran (task : Task) (t : TaskTurn) (setup : Setup) (layouts : List (ℕ × ℕ)) (pairs_before pairs_after : List Asking)
    (notes_before notes_after : List Noting) (log_before log_after : Option Log) (result : Result Answer NoMemory) : Type 0 where
  pub asked : List Asking
  pub calls : List Call
  pub noted : List Noting
  pub pairs_are : pairs_after ≡ pairs_before ++ asked
  pub notes_are : notes_after ≡ notes_before ++ map (behind_more (length pairs_before)) noted
  pub log_is : Gained log_before log_after calls
  pub run : TaskRun task t setup layouts asked calls noted (answered result)

abbrev pub may_note : Work → Bool
may_note Store = true
may_note Drop = true
may_note _ = false

-- a verdict that such a request of a task can have: only a check is answered by Absent and Unknown, and none fails
abbrev pub is_verdict_of : HostMessage → Verdict → Bool
is_verdict_of q (Ended why) = true
is_verdict_of q Unsent = true
is_verdict_of q (DoneAt at) = true
is_verdict_of q (UnsupportedAt at) = true
is_verdict_of (Checkpresent key) (FailedAt at) = false
is_verdict_of (Checkpresentexport key) (FailedAt at) = false
is_verdict_of q (FailedAt at) = true
is_verdict_of (Checkpresent key) (AbsentAt at) = true
is_verdict_of (Checkpresent key) (UnknownAt at) = true
is_verdict_of (Checkpresentexport key) (AbsentAt at) = true
is_verdict_of (Checkpresentexport key) (UnknownAt at) = true
is_verdict_of q v = false

-- the answer of a store, a get or a drop by a verdict that isn't Done; of Absent and Unknown, which its requests can't have, there is none
abbrev pub undone_answer : Verdict → Option Answer
undone_answer (FailedAt at) = Some (Failed at)
undone_answer (UnsupportedAt at) = Some Unsupported
undone_answer (Ended why) = Some (EndedAnswer why)
undone_answer Unsent = Some UnsentAnswer
undone_answer _ = None

-- the answer of a plain store or drop by the verdict of its request
abbrev pub change_answer : Answer → Verdict → Option Answer
change_answer success (DoneAt at) = Some success
change_answer success v = undone_answer v

-- The pairs grew by those of one run of the task, which made no calls and no notes.
pub record RanAsking (task : Task) (t : TaskTurn) (layouts : List (ℕ × ℕ)) (before after : List Asking) (result : Result Answer NoMemory) : Type 0 where
  pub asked : List Asking
  pub pairs_are : after ≡ before ++ asked
  pub run : (setup : Setup) → TaskRun task t setup layouts asked [] [] (answered result)

-- the task stores its content whole
abbrev pub IsWhole : Setup → Task → Type 0
IsWhole setup task = (key : Parts) → key_reading task.key ≡ Some key → is_chunked setup key ≡ false

-- The pairs and, where it is kept, the log grew by those of one run of the task, which made no notes and stores no chunks.
pub record RanPlain (task : Task) (t : TaskTurn) (layouts : List (ℕ × ℕ)) (before after : List Asking) (log_before log_after : Option Log) (result : Result Answer NoMemory) : Type 0 where
  pub asked : List Asking
  pub calls : List Call
  pub pairs_are : after ≡ before ++ asked
  pub log_is : Gained log_before log_after calls
  pub run : (setup : Setup) → IsWhole setup task → TaskRun task t setup layouts asked calls [] (answered result)

-- the task stores its content in chunks
abbrev pub IsInChunks : Setup → Task → Type 0
IsInChunks setup task = (key : Parts) → key_reading task.key ≡ Some key → is_chunked setup key ≡ true

-- The pairs, the notes and, where it is kept, the log grew by those of one run of the task, whatever layouts the remote has.
pub record RanStore (task : Task) (t : TaskTurn) (setup : Setup) (pairs_before pairs_after : List Asking)
    (notes_before notes_after : List Noting) (log_before log_after : Option Log) (result : Result Answer NoMemory) : Type 0 where
  pub asked : List Asking
  pub calls : List Call
  pub noted : List Noting
  pub pairs_are : pairs_after ≡ pairs_before ++ asked
  pub notes_are : notes_after ≡ notes_before ++ map (behind_more (length pairs_before)) noted
  pub log_is : Gained log_before log_after calls
  pub run : (layouts : List (ℕ × ℕ)) → TaskRun task t setup layouts asked calls noted (answered result)

-- the answer of a task that a call of its desk ended
abbrev pub refusal : DeskError → Result Answer NoMemory
refusal E.Failed = Ok FileFault
refusal E.Missing = Ok NoFile
refusal E.NoMemory = Err record {}

-- The pairs and, where it is kept, the log grew by those of one run of the task, which made no notes.
pub record RanGet (task : Task) (t : TaskTurn) (setup : Setup) (layouts : List (ℕ × ℕ)) (before after : List Asking) (log_before log_after : Option Log) (result : Result Answer NoMemory) : Type 0 where
  pub asked : List Asking
  pub calls : List Call
  pub pairs_are : after ≡ before ++ asked
  pub log_is : Gained log_before log_after calls
  pub run : TaskRun task t setup layouts asked calls [] (answered result)

-- the answer tells of a call of the desk that was refused, or may come after one: part may be missing where it is removed
abbrev pub may_follow_refusal : Result Answer NoMemory → Bool
may_follow_refusal (Ok FileFault) = true
may_follow_refusal (Ok NoFile) = true
may_follow_refusal (Ok (Size n)) = true
may_follow_refusal (Ok (Hash digest)) = true
may_follow_refusal (Ok answer) = false
may_follow_refusal (Err e) = false

-- the answer tells of a call of the desk that was refused
abbrev pub tells_of_refusal : Result Answer NoMemory → Bool
tells_of_refusal (Ok FileFault) = true
tells_of_refusal (Ok NoFile) = true
tells_of_refusal result = false

-- The desk's counts have not fallen, and FileFault and NoFile come only where theirs rose. All other answers leave the counts as they
-- were, unless that of missing files rose: a get may miss part.
pub record HasTaskCauses (old new : Counts) (result : Result Answer NoMemory) : Type 0 where
  pub faults_later : old.faults ≤ new.faults
  pub missing_later : old.missing ≤ new.missing
  pub fault : result ≡ Ok FileFault → Rose old.faults new.faults
  pub no_file : result ≡ Ok NoFile → Rose old.missing new.missing
  pub untold : tells_of_refusal result ≡ false → Rose old.missing new.missing ⊎ (new ≡ old)

-- The same, where all other answers but Size and Hash leave the counts as they were.
pub record HasQuietCauses (old new : Counts) (result : Result Answer NoMemory) : Type 0 where
  pub faults_later : old.faults ≤ new.faults
  pub missing_later : old.missing ≤ new.missing
  pub fault : result ≡ Ok FileFault → Rose old.faults new.faults
  pub no_file : result ≡ Ok NoFile → Rose old.missing new.missing
  pub untold : tells_of_refusal result ≡ false → Rose old.missing new.missing ⊎ (new ≡ old)
  pub quiet : may_follow_refusal result ≡ false → new ≡ old

-- the answer is neither FileFault nor NoFile
abbrev pub is_of_content : Answer → Bool
is_of_content FileFault = false
is_of_content NoFile = false
is_of_content _ = true
