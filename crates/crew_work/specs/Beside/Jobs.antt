-- How a number stands that asks for a task over a child that others read and write, and what its asking makes.
use Rattle.std.specs.Prelude.{ℕ, ◌≡◌, Bool, List}
use Rattle.journal_model.specs.declared.entry.Entry.{Entry}
use Rattle.journal_model.specs.declared.opening.Opening.{Opening}
use Rattle.child_link.specs.Asks.{Grows}
use Rattle.child_link.specs.Doors.{DoorView, IsSameDoor}
use Rattle.crew_work.specs.Worker.AtTasks.{AtTask}
use Rattle.crew_work.specs.Worker.KnownLayouts.{IsBook}
use Rattle.crew_work.specs.Worker.Servings.{by_jobs}

-- the number holds task t, no job of which is open, in a run that began with a book
pub record MayAsk (o : Opening) (number t : ℕ) (seen : List Entry) : Type 0 where
  pub at : AtTask o number t seen
  pub book : IsBook o.notes

-- it may ask for the task still, and made nothing else
pub record JobsOn (o : Opening) (number : ℕ) (alone : Bool) (old new : List Entry) (c t : ℕ) : Type 0 where
  pub may : MayAsk o number t new
  pub grows : Grows number alone (by_jobs c t) old new

-- what an asker over a door made of it: it is the same door, and the asker holds the same task still, over the same child
pub record JobsGo {H : Type 0} (old new : DoorView H) (c d t u : ℕ) : Type 0 where
  pub door : IsSameDoor old new
  pub child : d ≡ c
  pub task : u ≡ t
  pub on : JobsOn old.opening old.number old.alone old.seen new.seen c t
