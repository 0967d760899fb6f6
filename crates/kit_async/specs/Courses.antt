-- How the calling thread goes on, where it takes all turns.
use Rattle.std.specs.Prelude.{ℕ, ◌≡◌, Bool, true, List}
use Rattle.kit_async_model.specs.declared.entry.Entry.{Entry}
use Rattle.kit_async.specs.Work.Writing.{AllWritten}
use Rattle.kit_async.specs.declared.alone.Course.{Course}
use Rattle.kit_async.specs.declared.alone.Course.TheVariants.{On, Threads, Ended}
use Rattle.kit_async.specs.Turns.{holds, is_tagged}

-- It takes the next turn where all is written that the writer has seen said. Threads come in where they may, for a line with a tag alone.
abbrev pub IsCourse : Course → Bool → List Entry → List ℕ → Type 0
IsCourse On may journal held = AllWritten journal
IsCourse Threads may journal held = (may ≡ true) × (holds is_tagged held ≡ true)
IsCourse Ended may journal held = Unit {0}
