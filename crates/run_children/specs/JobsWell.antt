-- What is so of a run by many workers that went well from outside, and how its tasks are answered then.
use Rattle.ann_outside.specs.Told.{DeskTold}
use Rattle.std.specs.Prelude.{ℕ, ◌<◌, ◌+◌, List, [], ◌∷◌, ◌++◌, All}
use Rattle.journal_model.specs.declared.answer.Answer.{Answer}
use Rattle.journal_model.specs.declared.entry.Entry.{Entry}
use Rattle.journal_model.specs.declared.opening.Opening.{Opening}
use Rattle.task_model.specs.declared.setup.Setup.{Setup}
use Rattle.crew_work.specs.Worker.Works.{TaskDone}
use Rattle.run_starts.specs.TaskLaws.ChildrenWell.{AreKeysRead, ChildrenWell, IsDeskWell, IsDoneWell}
use Rattle.run_starts.specs.TaskLaws.RunWell.{AreAskedWell}
use Rattle.run_children.specs.Desks.{DesksDid}
use Rattle.run_children.specs.Unserved.{IsUnserved}

-- Where a start is allowed, and the journal's children all got ready, ended only when they were closed and could be written to, no task is
-- claimed without a child.
abbrev pub NoneUnserved : Type 0
NoneUnserved = (limit : ℕ) (journal : List Entry) (t : ℕ) → 0 < limit → ChildrenWell journal → (answer : Answer) → IsUnserved limit journal t answer → ⊥

-- what all desks did, one after the other
abbrev pub all_done : (o : Opening) (setup : Setup) (limit : ℕ) (journal past entries : List Entry) (k : ℕ) (desks desks' : List DeskTold) → DesksDid o setup limit journal past entries k desks desks' → List TaskDone
all_done o setup limit journal past entries k [] [] did = []
all_done o setup limit journal past entries k [] (e ∷ es) did = []
all_done o setup limit journal past entries k (d ∷ ds) [] did = []
all_done o setup limit journal past entries k (d ∷ ds) (e ∷ es) did = did.0.done ++ all_done o setup limit journal past entries (k + 1) ds es did.1

-- A start was allowed; each gave a child, none refused to get ready, ended before it was closed, or couldn't be written to; each request of a
-- task was done, but that what a store asks before it stores may be answered in any way; and all went well at the desks in these turns of
-- tasks, by whichever number they were run.
pub record JobsWentWell (o : Opening) (setup : Setup) (limit : ℕ) (journal : List Entry) (done : List TaskDone) : Type 0 where
  pub starts : 0 < limit
  pub keys : AreKeysRead o
  pub children : ChildrenWell journal
  pub asked : AreAskedWell o journal
  pub desks : All (λ (r : TaskDone). (number : ℕ) → IsDeskWell o setup journal number r.task r.turn r.calls) done

-- Then each of the tasks that these desks did is answered by its success, or says that memory ran out.
abbrev pub JobsSucceed : Opening → Setup → ℕ → List Entry → List Entry → List Entry → ℕ → List DeskTold → List DeskTold → Type 0
JobsSucceed o setup limit journal past entries k desks desks' =
    (did : DesksDid o setup limit journal past entries k desks desks') → JobsWentWell o setup limit journal (all_done o setup limit journal past entries k desks desks' did)
    → All (IsDoneWell o) (all_done o setup limit journal past entries k desks desks' did)
