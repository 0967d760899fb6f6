-- How the folder of temporary files is cleared of what stores left behind.
use Rattle.std.specs.Prelude.{ℕ, ◌≡◌, ◌≢◌, ◌⊎◌, ⊤, codes, Bool, true, false, List, [], ◌∷◌, ◌++◌, Result, Ok, Err}
use Rattle.ann_key.specs.declared.bytes.NoMemory.{NoMemory as WithoutMemory}
use Rattle.dir_remote.specs.declared.guard.place.Seen.{Seen}
use Rattle.dir_remote.specs.declared.guard.place.Seen.TheVariants.{Fits}
use Rattle.dir_remote.specs.declared.guard.place.Step.{Step}
use Rattle.dir_remote.specs.declared.guard.place.Step.TheVariants.{Stood, Listed, Met, Removed, Spelled}
use Rattle.dir_remote.specs.declared.guard.place.Want.TheVariants.{Way}
use Rattle.dir_remote.specs.declared.guard.place.What.TheVariants.{OldFile, Else}
use Rattle.dir_remote.specs.Guard.Gates.{under}
use Rattle.dir_remote.specs.Guard.LeftFiles.{is_left}

-- It was looked at, and removed where it is an old file.
abbrev pub Clears : List ℕ → List Step → Type 0
Clears file steps = (steps ≡ Met file Else ∷ []) ⊎ ((done : Bool) × (steps ≡ Met file OldFile ∷ Removed file done ∷ []))

-- Only a name that a store leaves is looked at.
abbrev pub ClearsBy : Bool → List ℕ → List Step → Type 0
ClearsBy true file steps = Clears file steps
ClearsBy false file steps = steps ≡ []

-- each name in its turn
abbrev pub ClearsAll : List ℕ → List (List ℕ) → List Step → Type 0
ClearsAll folder [] steps = steps ≡ []
ClearsAll folder (name ∷ names) steps =
    (mine more : List Step) × (steps ≡ mine ++ more) × ClearsBy (is_left name) (under folder name) mine × ClearsAll folder names more

-- the folder of temporary files
abbrev pub folder_of : List ℕ → List ℕ
folder_of directory = under directory (codes "tmp")

-- where memory was wanting: no step, or the look alone
abbrev pub ClearsPart : List ℕ → List Step → Type 0
ClearsPart file steps = (steps ≡ []) ⊎ (steps ≡ Met file OldFile ∷ [])

-- one name was gone through, or memory was wanting on the way
abbrev pub ClearsStep : List ℕ → List ℕ → Result (Unit {0}) WithoutMemory → List Step → Type 0
ClearsStep folder name (Ok done) steps = ClearsBy (is_left name) (under folder name) steps
ClearsStep folder name (Err e) steps = (steps ≡ []) ⊎ ((is_left name ≡ true) × ClearsPart (under folder name) steps)

-- Memory was wanting on the way: the names up to one were gone through.
pub record ClearsSome (folder : List ℕ) (names : List (List ℕ)) (steps : List Step) : Type 0 where
  pub gone : List (List ℕ)
  pub name : List ℕ
  pub left : List (List ℕ)
  pub cleared : List Step
  pub last : List Step
  pub names_are : names ≡ gone ++ name ∷ left
  pub steps_are : steps ≡ cleared ++ last
  pub clears : ClearsAll folder gone cleared
  pub part : (last ≡ []) ⊎ ((is_left name ≡ true) × ClearsPart (under folder name) last)

abbrev pub ClearsRest : List ℕ → List (List ℕ) → Result (Unit {0}) WithoutMemory → List Step → Type 0
ClearsRest folder names (Ok done) steps = ClearsAll folder names steps
ClearsRest folder names (Err e) steps = ClearsSome folder names steps

-- The names of the folder are gone through.
abbrev pub Lists : List ℕ → Result (Unit {0}) WithoutMemory → List Step → Type 0
Lists folder (Ok done) steps = (names : List (List ℕ)) × (more : List Step) × (steps ≡ Listed folder names ∷ more) × ClearsAll folder names more
Lists folder (Err e) steps =
    (steps ≡ []) ⊎ ((names : List (List ℕ)) × (more : List Step) × (steps ≡ Listed folder names ∷ more) × ClearsSome folder names more)

-- What isn't a folder, or is a link, isn't listed.
abbrev pub Skips : List ℕ → Result (Unit {0}) WithoutMemory → List Step → Type 0
Skips folder (Ok done) steps = (seen : Seen) × (seen ≢ Fits) × (steps ≡ Stood Way folder seen ∷ [])
Skips folder (Err e) steps = steps ≡ []

-- The folder is looked at first: it is a folder and no link. Then its names are gone through.
abbrev pub SweepsBy : List ℕ → List Step → Result (Unit {0}) WithoutMemory → Type 0
SweepsBy directory steps result =
    Skips (folder_of directory) result steps
    ⊎ ((rest : List Step) × (steps ≡ Stood Way (folder_of directory) Fits ∷ rest) × Lists (folder_of directory) result rest)

-- ---- what is removed

-- what is removed is the folder's file of a name that a store leaves
abbrev pub RemovesLeft : List ℕ → Step → Type 0
RemovesLeft folder (Stood want path seen) = ⊤
RemovesLeft folder (Listed other names) = ⊤
RemovesLeft folder (Met file what) = ⊤
RemovesLeft folder (Spelled path whole) = ⊤
RemovesLeft folder (Removed file done) = (name : List ℕ) × (file ≡ under folder name) × (is_left name ≡ true)
