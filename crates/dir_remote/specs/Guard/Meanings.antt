-- What the words of a directory remote that is served mean.
use Rattle.std.specs.Prelude.{ℕ, ◌≡◌, List, Option, Some, Ok}
use Rattle.ann_outside.specs.Files.{Files, WhereTold}
use Rattle.kit_serve.specs.declared.kit.call.Said.TheVariants.{Yes, No}
use Rattle.dir_remote.specs.Answers.{CheckDoes, RemoveDoes, RetrieveDoes, StoreDoes}
use Rattle.dir_remote.specs.Guard.Guards.{Checks, GuardTold, Removes, Retrieves, Stores}
use Rattle.dir_remote.specs.declared.outcome.Outcome.{Outcome}
use Rattle.dir_remote.specs.declared.outcome.Outcome.TheVariants.{Done, NotThere}

-- A directory was given, and over files that tell the call did that in it.
pub record Did (Does : List ℕ → Outcome → Files → Files → Type 0) (outcome : Outcome) (old new : GuardTold) : Type 0 where
  pub directory : List ℕ
  pub given : old.directory ≡ Some directory
  pub did : WhereTold old.desk.files new.desk.files (Does directory outcome)

-- After Yes to a store the content under the key is that of the file, and after Yes to a removal there is none; after Yes to a get the
-- file has the content; and Yes and No to a check say whether there is one.
abbrev pub WordsHold : GuardTold → GuardTold → List ℕ → List ℕ → Type 0
WordsHold old new key file =
    (Stores old new key file (Ok Yes) → Did (λ d. StoreDoes d key file) Done old new)
    × (Retrieves old new key file (Ok Yes) → Did (λ d. RetrieveDoes d key file) Done old new)
    × (Checks old new key (Ok Yes) → Did (λ d. CheckDoes d key) Done old new)
    × (Checks old new key (Ok No) → Did (λ d. CheckDoes d key) NotThere old new)
    × (Removes old new key (Ok Yes) → Did (λ d. RemoveDoes d key) Done old new)
