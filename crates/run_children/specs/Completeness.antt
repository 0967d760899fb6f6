-- When all went well from outside in a run by many workers, by what was counted, and how its tasks are answered then.
use Rattle.ann_outside.specs.Told.{DeskTold}
use Rattle.std.specs.Prelude.{ℕ, ◌≡◌, ◌⊎◌, ◌<◌, ◌+◌, Bool, true, List, [], ◌∷◌, ◌++◌, All, Some}
use Rattle.std.specs.List.{list_all}
use Rattle.ann_key.specs.Keys.{Parts, key_reading}
use Rattle.ann_outside.specs.Causes.{Rose}
use Rattle.ann_outside.specs.DeskCauses.{Counts}
use Rattle.journal_model.specs.declared.answer.Answer.{Answer}
use Rattle.journal_model.specs.declared.entry.What.TheVariants.{Answer as Answered}
use Rattle.journal_model.specs.declared.entry.Entry.{Entry}
use Rattle.journal_model.specs.declared.opening.Opening.{Opening}
use Rattle.journal_model.specs.Legality.{task_of}
use Rattle.task_text.specs.declared.task.Task.{Task}
use Rattle.task_model.specs.Askings.{run_askings, run_turn}
use Rattle.task_model.specs.Names.{part_of}
use Rattle.task_model.specs.declared.setup.Setup.{Setup}
use Rattle.crew_work.specs.Laws.JournalRuns.{JournalRun}
use Rattle.crew_work.specs.Worker.Works.{TaskDone}
use Rattle.run_starts.specs.TaskLaws.ChildrenWell.{AreKeysRead, ChildrenWell}
use Rattle.run_starts.specs.TaskLaws.RunWell.{AreAskedWell}
use Rattle.run_starts.specs.TaskLaws.WentWell.{IsFoundWell, IsSuccess, is_called_well}
use Rattle.run_children.specs.Desks.{DesksDid}
use Rattle.run_children.specs.JobRuns.{RanJobs}

-- The task found what it should. The desk's count of missing files stayed; or its calls, where they are known, missed no file but part, where
-- that is looked up or removed.
abbrev pub FindsWell : Opening → Setup → List Entry → Counts → Counts → TaskDone → Type 0
FindsWell o setup journal old new r =
    (number : ℕ) (run : JournalRun o setup r.calls number r.task r.turn journal) (key : Parts) → key_reading run.task.key ≡ Some key
    → IsFoundWell setup (run_turn run.run) run.task key run.layouts run.task.work (run_askings run.run) r.calls
    × ((Rose old.missing new.missing → ⊥) ⊎ (list_all (is_called_well (part_of run.task.file)) r.calls ≡ true))

-- No desk counted a fault, and each of its tasks found what it should.
abbrev pub DesksFound : (o : Opening) (setup : Setup) (limit : ℕ) (journal past entries : List Entry) (k : ℕ) (desks desks' : List DeskTold) → DesksDid o setup limit journal past entries k desks desks' → Type 0
DesksFound o setup limit journal past entries k [] [] did = Unit {0}
DesksFound o setup limit journal past entries k [] (e ∷ es) did = Unit {0}
DesksFound o setup limit journal past entries k (d ∷ ds) [] did = Unit {0}
DesksFound o setup limit journal past entries k (d ∷ ds) (e ∷ es) did =
    (Rose d.counts.faults e.counts.faults → ⊥) × All (FindsWell o setup journal d.counts e.counts) did.0.done × DesksFound o setup limit journal past entries (k + 1) ds es did.1

-- A start was allowed; each gave a child, none refused to get ready, ended before it was closed, or couldn't be written to; each request of a
-- task was done, but that what a store asks before it stores may be answered in any way; no desk counted a fault, and each task found what it
-- should.
pub record JobsFoundWell (o : Opening) (setup : Setup) (may : Bool) (limit : ℕ) (journal : List Entry) (desks desks' : List DeskTold) (ran : RanJobs o setup may limit journal desks desks') : Type 0 where
  pub starts : 0 < limit
  pub keys : AreKeysRead o
  pub children : ChildrenWell journal
  pub asked : AreAskedWell o journal
  pub found : DesksFound o setup limit journal [] journal 1 desks desks' ran.did

-- each answer in the journal is its task's success, or says that no memory was found
abbrev pub AreAnsweredWell : Opening → List Entry → Type 0
AreAnsweredWell o journal =
    (front rest : List Entry) (by t : ℕ) (answer : Answer) (task : Task) → journal ≡ front ++ record { by = by; what = Answered t answer } ∷ rest → task_of o t ≡ Some task → IsSuccess task.work answer

-- Then each answer in the journal is so.
abbrev pub JobsComplete : Type 0
JobsComplete =
    (o : Opening) (setup : Setup) (may : Bool) (limit : ℕ) (journal : List Entry) (desks desks' : List DeskTold) (ran : RanJobs o setup may limit journal desks desks')
    → JobsFoundWell o setup may limit journal desks desks' ran → AreAnsweredWell o journal
