-- What the workers of a pool leave when their threads are joined.
use Rattle.ann_outside.specs.Told.{DeskTold}
use Rattle.std.specs.Prelude.{ℕ, ◌≡◌, Bool, true, false, List, ◌∷◌, Option, Some, None, map, slice_get}
use Rattle.threads.specs.Passes.{HallValue, IsPassOf, seen_of}
use Rattle.journal_model.specs.declared.entry.Entry.{Entry}
use Rattle.journal_model.specs.declared.opening.Opening.{Opening}
use Rattle.child_link.specs.Moves.{IsSameLink}
use Rattle.child_link.specs.Writings.{LoneWired}
use Rattle.ann_key.specs.Pairs.{Pairwise}
use Rattle.crew_work.specs.Laws.Rounds.{CorePass, LinkValue, since}
use Rattle.crew_work.specs.Laws.Tasks.{IsThrough, IsThroughAfterAgain}
use Rattle.task_model.specs.declared.setup.Setup.{Setup}
use Rattle.crew_work.specs.Worker.Works.{Worked}
use Rattle.crew_rounds.specs.Tagged.Coming.{IsFresh}
use Rattle.crew_rounds.specs.declared.tagged.outcome.Outcome.{Outcome}
use Rattle.crew_rounds.specs.declared.tagged.outcome.Outcome.TheVariants.{Done, NoMemory, NoThreads}
use Rattle.threads.specs.declared.roles.slot.Refused.{Refused}
use Rattle.crew_rounds.specs.Tagged.PoolChildren.{PoolCan}
use Rattle.crew_rounds.specs.Tagged.Roles.{CanRunTasks}
use Rattle.crew_rounds.specs.Tagged.Tagged.{AreFresh}
use Rattle.task_text.specs.declared.task.Task.{Task}

-- by whether a worker ran, and whether one got no thread
abbrev pub done_if : Bool → Option Refused → Outcome
done_if true refused = Done
done_if false (Some refused) = NoThreads refused
done_if false None = NoMemory

-- a worker's pass, its link, and what its desk tells
pub record LoneTells : Type 0 where
  pub pass : CorePass
  pub link : LinkValue
  pub desk : DeskTold

abbrev pub passes_of : List LoneTells → List CorePass
passes_of es = map (λ (e : LoneTells). e.pass) es

abbrev pub links_of : List LoneTells → List LinkValue
links_of es = map (λ (e : LoneTells). e.link) es

abbrev pub desks_of : List LoneTells → List DeskTold
desks_of es = map (λ (e : LoneTells). e.desk) es

-- The pass came back, and with it the link and the desk, as a worker leaves them that has its child for itself. Where it left a task
-- to be run again, it takes up no more.
pub record LoneBack (h : HallValue Entry Opening) (setup : Setup) (start end : LoneTells) : Type 0 where
  pub pass : IsPassOf h end.pass
  pub number : end.pass.number ≡ start.pass.number
  pub one_child : start.link.mouth.child ≡ start.link.ear.child
  pub same : IsSameLink start.link.ear end.link.ear start.link.mouth end.link.mouth
  pub worked : Worked h.fixed setup true end.pass.number false start.link.ear.child end.pass.start (seen_of end.pass) (LoneWired end.pass.start start.link.ear start.link.mouth) (LoneWired (seen_of end.pass) end.link.ear end.link.mouth) start.desk end.desk
  pub through : IsThroughAfterAgain h.fixed end.pass.number start.link.ear.child (since end.pass) (seen_of end.pass)

-- one of the workers has seen that there is nothing more to do for its child
pub record IsThroughAt (h : HallValue Entry Opening) (ends : List LoneTells) : Type 0 where
  pub place : ℕ
  pub end : LoneTells
  pub there : slice_get ends place ≡ Some end
  pub through : IsThrough h.fixed (seen_of end.pass) end.link.ear.child

-- The workers of a round over these links may play by these passes: those of the hall's begin, where the round may begin and the tasks can
-- be run.
pub record MayPlay (h : HallValue Entry Opening) (tasks : List Task) (setup : Setup) (links : List LinkValue) (passes : List CorePass) : Type 0 where
  pub fresh : AreFresh h 1 passes
  pub can : PoolCan h.fixed h.start links
  pub run : CanRunTasks h.fixed tasks setup

-- The passes of the main thread, which has done nothing, and of the workers, their links and their desks, as they began and as
-- they end.
pub record PoolLeft (h : HallValue Entry Opening) (setup : Setup) (links links' : List LinkValue) (passes : List CorePass) (desks desks' : List DeskTold) : Type 0 where
  pub main : CorePass
  pub starts : List LoneTells
  pub ends : List LoneTells
  pub passes_are : passes ≡ main ∷ passes_of ends
  pub links_are : (links ≡ links_of starts) × (links' ≡ links_of ends)
  pub desks_are : (desks ≡ desks_of starts) × (desks' ≡ desks_of ends)
  pub still : IsFresh h main × (main.number ≡ 1)
  pub fresh : AreFresh h 2 (passes_of starts)
  pub came : Pairwise (LoneBack h setup) starts ends
  pub through : IsThroughAt h ends
