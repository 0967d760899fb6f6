-- What is so of a run that went well from outside: of its children, of its keys, and at the desk of a task.
use Rattle.std.specs.Prelude.{ℕ, ◌≡◌, ◌==◌, ◌&&◌, not, Bool, true, false, List, Some, is_some}
use Rattle.ann_key.specs.Keys.{Parts, key_reading}
use Rattle.ann_outside.specs.declared.file_desk.Call.{Call}
use Rattle.journal_model.specs.declared.entry.What.{What}
use Rattle.journal_model.specs.declared.entry.What.TheVariants.{NoStart, Mute, End, Verdict as Settled}
use Rattle.journal_model.specs.declared.entry.Entry.{Entry}
use Rattle.journal_model.specs.declared.opening.Opening.{Opening}
use Rattle.journal_model.specs.Journal.{any}
use Rattle.journal_model.specs.Legality.{task_of}
use Rattle.journal_model.specs.Shares.{is_closed}
use Rattle.task_text.specs.declared.task.Task.{Task}
use Rattle.task_model.specs.declared.setup.Setup.{Setup}
use Rattle.task_model.specs.Askings.{run_askings, run_turn}
use Rattle.task_model.specs.TaskRuns.{refused_at}
use Rattle.crew_work.specs.Laws.JournalRuns.{JournalRun}
use Rattle.crew_work.specs.Worker.Works.{TaskDone}
use Rattle.run_starts.specs.TaskLaws.WentWell.{DeskWentWell, IsSuccess}

-- ---- children

-- a start that gave no child
abbrev pub is_no_start : What → Bool
is_no_start (NoStart slot) = true
is_no_start w = false

-- a child refused to get ready
abbrev pub is_refusal : What → Bool
is_refusal (Settled child job verdict) = job == 1 && is_some (refused_at verdict)
is_refusal w = false

-- a child ended, and the host hadn't closed it
abbrev pub is_unclosed_end : What → Bool
is_unclosed_end (End child why) = not (is_closed why)
is_unclosed_end w = false

-- a write to a child failed
abbrev pub is_muting : What → Bool
is_muting (Mute child) = true
is_muting w = false

-- Each start gave a child; none refused to get ready, none ended before it was closed, and each write was done.
pub record ChildrenWell (journal : List Entry) : Type 0 where
  pub started : any is_no_start journal ≡ false
  pub ready : any is_refusal journal ≡ false
  pub closed : any is_unclosed_end journal ≡ false
  pub heard : any is_muting journal ≡ false

-- ---- the run

-- each task's key can be read
abbrev pub AreKeysRead : Opening → Type 0
AreKeysRead o = (t : ℕ) (task : Task) → task_of o t ≡ Some task → is_some (key_reading task.key) ≡ true

-- in each run of this turn of the task by this number with these calls, all went well at its desk
abbrev pub IsDeskWell : Opening → Setup → List Entry → ℕ → ℕ → ℕ → List Call → Type 0
IsDeskWell o setup journal number t k calls =
    (run : JournalRun o setup calls number t k journal) (key : Parts) → key_reading run.task.key ≡ Some key → DeskWentWell setup (run_turn run.run) run.task key run.layouts (run_askings run.run) calls

-- the task is answered by its success, or says that memory ran out
abbrev pub IsDoneWell : Opening → TaskDone → Type 0
IsDoneWell o r = (task : Task) → task_of o r.task ≡ Some task → IsSuccess task.work r.answer
