-- What is so of a run that went well from outside, and how its tasks are answered then.
use Rattle.std.specs.Prelude.{ℕ, ◌≡◌, true, List, All, Some}
use Rattle.std.specs.List.{list_all}
use Rattle.ann_key.specs.Keys.{Parts, key_reading}
use Rattle.ann_outside.specs.declared.file_desk.Call.{Call}
use Rattle.journal_model.specs.declared.answer.Answer.{Answer}
use Rattle.journal_model.specs.declared.entry.Entry.{Entry}
use Rattle.journal_model.specs.declared.opening.Opening.{Opening}
use Rattle.journal_model.specs.Legality.{task_of}
use Rattle.task_text.specs.declared.task.Task.{Task}
use Rattle.task_model.specs.declared.setup.Setup.{Setup}
use Rattle.task_model.specs.Askings.{askings, run_askings, run_turn}
use Rattle.crew_work.specs.Laws.JournalRuns.{JournalRun}
use Rattle.run_starts.specs.TaskLaws.WentWell.{is_asked_well, DeskWentWell, IsSuccess}

-- a run of a task: by which number, which turn of it, its desk's calls, and its answer
pub record TaskDone : Type 0 where
  pub number : ℕ
  pub task : ℕ
  pub turn : ℕ
  pub calls : List Call
  pub answer : Answer

-- each request of a task was done; what a store asks before it stores may be answered in any way
abbrev pub AreAskedWell : Opening → List Entry → Type 0
AreAskedWell o journal = (t : ℕ) (task : Task) → task_of o t ≡ Some task → list_all (is_asked_well task.work) (askings journal t) ≡ true

-- The journal has this run, and all went well at its desk.
pub record RanWell (o : Opening) (setup : Setup) (journal : List Entry) (r : TaskDone) : Type 0 where
  pub run : JournalRun o setup r.calls r.number r.task r.turn journal
  pub answer_is : run.run.answer ≡ r.answer
  pub key : Parts
  pub keyed : key_reading run.task.key ≡ Some key
  pub desk : DeskWentWell setup (run_turn run.run) run.task key run.layouts (run_askings run.run) r.calls

-- it is answered by its success, or says that memory ran out
abbrev pub IsSucceeded : Opening → TaskDone → Type 0
IsSucceeded o r = (task : Task) → task_of o r.task ≡ Some task → IsSuccess task.work r.answer

-- In a run whose requests were done, each task over a child for which all went well at its desk is answered by its success, or by want
-- of memory.
abbrev pub RunsSucceed : Type 0
RunsSucceed =
    (o : Opening) (setup : Setup) (journal : List Entry) (done : List TaskDone) → AreAskedWell o journal → All (RanWell o setup journal) done → All (IsSucceeded o) done
