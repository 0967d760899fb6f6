-- What is told of the runs of one desk, and what its files hold in the end.
use Rattle.std.specs.Prelude.{ℕ, ◌≡◌, List, ◌∷◌, ◌++◌, map, All, Option, Some, None}
use Rattle.ann_outside.specs.Calls.{Log}
use Rattle.ann_outside.specs.Files.{Files, content}
use Rattle.crew_work.specs.Worker.Works.{TaskDone}
use Rattle.run_starts.specs.TaskLaws.Faithful.{Told, IsPlayed, AreInTurn}
use Rattle.run_starts.specs.TaskLaws.Retrieval.{AllLeave}
use Rattle.task_model.specs.declared.turn.TaskTurn.{TaskTurn}

-- the turn of a task that was run
abbrev pub turn_done : TaskDone → TaskTurn
turn_done r = record { task = r.task; turn = r.turn }

-- each of the runs made the calls that are told of it, and one after the other they made the new files of the old ones
pub record AreToldSo (told : Told) (done : List TaskDone) (old new : Files) : Type 0 where
  pub calls : All (λ (r : TaskDone). told.calls (turn_done r) ≡ r.calls) done
  pub turn : AreInTurn told (map turn_done done) old new

-- so it is where the files at first and in the end are told
abbrev pub AreToldFrom : Told → List TaskDone → Option Files → Option Files → Type 0
AreToldFrom told done (Some old) (Some new) = AreToldSo told done old new
AreToldFrom told done (Some old) None = Unit {0}
AreToldFrom told done None files = Unit {0}

-- so it is of a desk that tells both its calls and its files: of those with which its log begins these were made
abbrev pub IsToldAt : Told → List TaskDone → Option Log → Option Files → Type 0
IsToldAt told done None files = Unit {0}
IsToldAt told done (Some log) files = AreToldFrom told done log.origin files

-- The calls of each of a desk's runs were played on its files, and what a file holds after one it holds in the end, where each later one
-- leaves it as it is.
abbrev pub DeskHolds : Type 0
DeskHolds =
    (told : Told) (earlier later : List TaskDone) (r : TaskDone) (old new : Files) → AreToldSo told (earlier ++ r ∷ later) old new
    → IsPlayed told (turn_done r)
    × ((name bytes : List ℕ) → content name (told.after (turn_done r)) ≡ Some bytes → AllLeave told name (map turn_done later) → content name new ≡ Some bytes)
