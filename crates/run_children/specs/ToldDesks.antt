-- What is told of the tasks of all desks of a run.
use Rattle.ann_outside.specs.Told.{DeskTold}
use Rattle.std.specs.Prelude.{ℕ, ◌+◌, List, [], ◌∷◌, Option}
use Rattle.ann_outside.specs.Calls.{IsLogBlank}
use Rattle.ann_outside.specs.Files.{Files}
use Rattle.ann_outside.specs.Played.{ArePlayed}
use Rattle.journal_model.specs.declared.entry.Entry.{Entry}
use Rattle.journal_model.specs.declared.opening.Opening.{Opening}
use Rattle.journal_model.specs.Legality.{Legal}
use Rattle.task_model.specs.declared.setup.Setup.{Setup}
use Rattle.run_starts.specs.TaskLaws.Faithful.{Told}
use Rattle.run_starts.specs.TaskLaws.ToldDesks.{IsToldAt}
use Rattle.run_children.specs.Desks.{DesksDid}

-- what is told of the tasks of each desk is what it did, where it tells its calls and has these files in the end
abbrev pub AreToldAt : (told : Told) (o : Opening) (setup : Setup) (limit : ℕ) (journal past entries : List Entry) (k : ℕ) (desks desks' : List DeskTold) → DesksDid o setup limit journal past entries k desks desks'
    → List (Option Files) → Type 0
AreToldAt told o setup limit journal past entries k [] [] did files = Unit {0}
AreToldAt told o setup limit journal past entries k [] (e ∷ es) did files = Unit {0}
AreToldAt told o setup limit journal past entries k (d ∷ ds) [] did files = Unit {0}
AreToldAt told o setup limit journal past entries k (d ∷ ds) (e ∷ es) did [] = Unit {0}
AreToldAt told o setup limit journal past entries k (d ∷ ds) (e ∷ es) did (now ∷ more) =
    IsToldAt told did.0.done e.log now × AreToldAt told o setup limit journal past entries (k + 1) ds es did.1 more

-- where a desk tells its calls and its files, these are what its calls made of those with which its log began
abbrev pub ArePlayedNow : List DeskTold → List (Option Files) → Type 0
ArePlayedNow [] files = Unit {0}
ArePlayedNow (desk ∷ desks) [] = Unit {0}
ArePlayedNow (desk ∷ desks) (now ∷ more) = ∥ ArePlayed desk.log now ∥₁ × ArePlayedNow desks more

-- no call was made on any of these desks
abbrev pub AreBlank : List DeskTold → Type 0
AreBlank [] = Unit {0}
AreBlank (desk ∷ desks) = IsLogBlank desk.log × AreBlank desks

-- Where no call was made on the desks of a run before it, there are files before and after each task that fit what is told of the desks.
abbrev pub TasksAreTold : Type 0
TasksAreTold =
    (o : Opening) (setup : Setup) (limit : ℕ) (journal : List Entry) (desks desks' : List DeskTold) (files : List (Option Files)) → Legal o journal → AreBlank desks
    → (did : DesksDid o setup limit journal [] journal 1 desks desks') → ArePlayedNow desks' files
    → ∥ ((told : Told) × AreToldAt told o setup limit journal [] journal 1 desks desks' did files) ∥₁
