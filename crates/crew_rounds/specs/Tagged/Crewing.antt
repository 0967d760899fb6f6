-- The workers of a round beside what came of them.
use Rattle.ann_outside.specs.Told.{DeskTold}
use Rattle.std.specs.Prelude.{ℕ, ◌≡◌, ◌+◌, ◌<◌, ◌==◌, if◌then◌else◌, false, List, [], ◌∷◌, ◌++◌}
use Rattle.ann_outside.specs.Calls.{Gained}
use Rattle.ann_outside.specs.declared.file_desk.Call.{Call}
use Rattle.threads.specs.Passes.{HallValue, IsPassOf, seen_of}
use Rattle.journal_model.specs.declared.entry.Entry.{Entry}
use Rattle.journal_model.specs.declared.opening.Opening.{Opening}
use Rattle.crew_work.specs.Laws.JournalRuns.{JournalRun}
use Rattle.crew_work.specs.Laws.Rounds.{CorePass, since}
use Rattle.crew_work.specs.Laws.Tasks.{IsThroughAfterAgain, turns_by}
use Rattle.task_model.specs.declared.setup.Setup.{Setup}
use Rattle.crew_work.specs.Worker.Works.{CausedInTurn, TaskDone, Worked, all_calls, turns_of}
use Rattle.crew_work.specs.Beside.Runs.{calls_of}

-- a worker's pass, and what its desk tells
pub record WorkerTells : Type 0 where
  pub pass : CorePass
  pub desk : DeskTold

-- The pass of this number came back, and with it the desk, as a worker over the shared child c leaves them. Where it left a task to be
-- run again, it takes up no more.
pub record Manned (h : HallValue Entry Opening) (setup : Setup) (c number : ℕ) (desk : DeskTold) (end : WorkerTells) : Type 0 where
  pub number_is : end.pass.number ≡ number
  pub pass : IsPassOf h end.pass
  pub worked : Worked h.fixed setup false end.pass.number false c end.pass.start (seen_of end.pass) (Unit {0}) (Unit {0}) desk end.desk
  pub through : IsThroughAfterAgain h.fixed end.pass.number c (since end.pass) (seen_of end.pass)

-- so did each, where they have the numbers from `first` on
abbrev pub AllManned : HallValue Entry Opening → Setup → ℕ → ℕ → List DeskTold → List WorkerTells → Type 0
AllManned h setup c first [] [] = Unit {0}
AllManned h setup c first [] (e ∷ es) = ⊥
AllManned h setup c first (d ∷ ds) [] = ⊥
AllManned h setup c first (d ∷ ds) (e ∷ es) = Manned h setup c first d e × AllManned h setup c (first + 1) ds es

-- the calls of each number for each turn of a task, where the workers have the numbers from `first` on
abbrev pub calls_from : ℕ → List (List TaskDone) → ℕ → ℕ → ℕ → List Call
calls_from first [] number t k = []
calls_from first (done ∷ dones) number t k = if number == first then calls_of done t k else calls_from (first + 1) dones number t k

-- It was claimed for a child, run over it by this number, in the layouts that were current then, and closed with this answer.
pub record WorkerRun (o : Opening) (setup : Setup) (journal : List Entry) (number : ℕ) (r : TaskDone) : Type 0 where
  pub run : JournalRun o setup r.calls number r.task r.turn journal
  pub child : 0 < run.run.child
  pub answer : run.run.answer ≡ r.answer

-- so was each
abbrev pub AllRun : Opening → Setup → List Entry → ℕ → List TaskDone → Type 0
AllRun o setup journal number [] = Unit {0}
AllRun o setup journal number (r ∷ rs) = WorkerRun o setup journal number r × AllRun o setup journal number rs

-- The number claimed these turns of tasks in the round, in order; each was run; and its desk made the calls of these runs, in their
-- order, and no others.
pub record DeskDid (o : Opening) (setup : Setup) (start rest : List Entry) (number : ℕ) (done : List TaskDone) (desk desk' : DeskTold) : Type 0 where
  pub claimed : turns_by number start rest ≡ turns_of done
  pub ran : AllRun o setup (start ++ rest) number done
  pub log_is : Gained desk.log desk'.log (all_calls done)
  pub caused : CausedInTurn desk.counts done desk'.counts

abbrev pub DesksDid : Opening → Setup → List Entry → List Entry → ℕ → List (List TaskDone) → List DeskTold → List DeskTold → Type 0
DesksDid o setup start rest first [] [] [] = Unit {0}
DesksDid o setup start rest first (done ∷ dones) (d ∷ ds) (e ∷ es) = DeskDid o setup start rest first done d e × DesksDid o setup start rest (first + 1) dones ds es
DesksDid o setup start rest first dones ds es = ⊥
