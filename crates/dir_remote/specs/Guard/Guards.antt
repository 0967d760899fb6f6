-- What each call of a directory remote that is served does: which folders it asks for, and which call of the remote inside is made.
use Rattle.std.specs.Prelude.{ℕ, ◌≡◌, ◌≢◌, ◌⊎◌, ◌==◌, ◌&&◌, not, codes, Bool, true, false, List, [], ◌∷◌, ◌++◌, Option, Some, None, option_map, Result, Ok, Err, IsErr, IsOk, IfOk, IsTrue}
use Rattle.std.specs.Str.{IsUtf8}
use Rattle.ann_key.specs.declared.bytes.NoMemory.{NoMemory as WithoutMemory}
use Rattle.ann_outside.specs.Told.{DeskTold}
use Rattle.annex_model.specs.Lines.{has_newline}
use Rattle.kit_serve.specs.declared.kit.call.Said.{Said}
use Rattle.kit_serve.specs.declared.kit.call.Said.TheVariants.{Yes, No, Failure, Set}
use Rattle.dir_remote.specs.Answers.{Prepares}
use Rattle.dir_remote.specs.Contents.{LeavesInTransit}
use Rattle.dir_remote.specs.Desks.{CheckAnswers, RemoveAnswers, RetrieveAnswers, StoreAnswers}
use Rattle.dir_remote.specs.declared.guard.gates.Gate.{Gate}
use Rattle.dir_remote.specs.declared.guard.place.Step.{Step}
use Rattle.dir_remote.specs.declared.guard.place.Step.TheVariants.{Spelled}
use Rattle.dir_remote.specs.declared.guard.place.Want.TheVariants.{Founded}
use Rattle.dir_remote.specs.Guard.Gates.{is_whole, looks_of, AreGates, Passes, IsHeld, store_gates, removal_gates}
use Rattle.dir_remote.specs.Guard.Sentences.{line_of, relative_sentence}
use Rattle.dir_remote.specs.Guard.Steps.{Adds}
use Rattle.dir_remote.specs.Guard.Sweeps.{SweepsBy}

-- what contracts see of a directory remote that is served
pub record GuardValue (P D : Type 0) : Type 0 where
  pub place : P
  pub mark : Option (List ℕ)
  pub directory : Option (List ℕ)
  pub desk : D
  pub sweeps : Bool

-- what it tells
pub record GuardTold : Type 0 where
  pub steps : Option (List Step)
  pub mark : Option (List ℕ)
  pub directory : Option (List ℕ)
  pub desk : DeskTold

abbrev pub told_by : {P D : Type 0} → (P → Option (List Step)) → (D → DeskTold) → GuardValue P D → GuardTold
told_by steps told g = record { steps = steps g.place; mark = g.mark; directory = g.directory; desk = told g.desk }

-- all but the place and the desk stays
pub record Keeps {P D : Type 0} (old new : GuardValue P D) : Type 0 where
  pub mark : new.mark ≡ old.mark
  pub directory : new.directory ≡ old.directory
  pub sweeps : new.sweeps ≡ old.sweeps

-- all but the place stays
pub record SameButPlace {P D : Type 0} (old new : GuardValue P D) : Type 0 where
  pub desk : new.desk ≡ old.desk
  pub mark : new.mark ≡ old.mark
  pub directory : new.directory ≡ old.directory
  pub sweeps : new.sweeps ≡ old.sweeps

-- ---- a call of the remote inside

-- Its word stands where the folders that are asked for after it let it; else their sentence is said.
abbrev pub Stands : List Gate → List Step → Result Said WithoutMemory → Result Said WithoutMemory → Type 0
Stands gates steps said result = (Passes gates steps × (result ≡ said)) ⊎ IsHeld gates steps result

-- All folders were found as they are wanted, and the call was made, with this word.
pub record Calls (Inner : Result Said WithoutMemory → Type 0) (again : Result Said WithoutMemory → List Gate)
    (gates : List Gate) (steps : List Step) (result : Result Said WithoutMemory) : Type 0 where
  pub first : List Step
  pub more : List Step
  pub whole : steps ≡ first ++ more
  pub passed : Passes gates first
  pub said : Result Said WithoutMemory
  pub inner : Inner said
  pub stands : Stands (again said) more said result

-- The folders were asked for. Either one of them stopped the call, and the desk is untouched; or the call was made.
pub record Guards (Are : List Gate → Type 0) (Inner : Result Said WithoutMemory → Type 0) (again : Result Said WithoutMemory → List Gate)
    (old new : GuardTold) (result : Result Said WithoutMemory) : Type 0 where
  pub gates : List Gate
  pub are : Are gates
  pub steps : List Step
  pub added : Adds old.steps new.steps steps
  pub course : ((new.desk ≡ old.desk) × IsHeld gates steps result) ⊎ Calls Inner again gates steps result

-- where nothing is asked for afterwards
abbrev pub no_more : Result Said WithoutMemory → List Gate
no_more said = []

-- An absence is said only where DIRECTORY is still there.
abbrev pub after_check : Option (List ℕ) → Result Said WithoutMemory → List Gate
after_check directory (Ok No) = looks_of directory
after_check directory (Ok Yes) = []
after_check directory (Ok (Set pairs)) = []
after_check directory (Ok (Failure text)) = []
after_check directory (Err e) = []

-- So is it said only then that a content is gone: there may have been none.
abbrev pub after_yes : Option (List ℕ) → Result Said WithoutMemory → List Gate
after_yes directory (Ok Yes) = looks_of directory
after_yes directory (Ok (Set pairs)) = looks_of directory
after_yes directory (Ok No) = []
after_yes directory (Ok (Failure text)) = []
after_yes directory (Err e) = []

abbrev pub IsLook : Option (List ℕ) → List Gate → Type 0
IsLook directory gates = gates ≡ looks_of directory

-- ---- the calls

abbrev pub Stores : GuardTold → GuardTold → List ℕ → List ℕ → Result Said WithoutMemory → Type 0
Stores old new key file result =
    Guards (AreGates store_gates old.directory key) (λ r. StoreAnswers old.desk new.desk old.mark old.directory key file r × LeavesInTransit old.mark old.directory key old.desk.files new.desk.files)
    no_more old new result

abbrev pub Retrieves : GuardTold → GuardTold → List ℕ → List ℕ → Result Said WithoutMemory → Type 0
Retrieves old new key file result =
    Guards (IsLook old.directory) (RetrieveAnswers old.desk new.desk old.directory key file) no_more old new result

abbrev pub Checks : GuardTold → GuardTold → List ℕ → Result Said WithoutMemory → Type 0
Checks old new key result =
    Guards (IsLook old.directory) (CheckAnswers old.desk new.desk old.directory key) (after_check old.directory) old new result

abbrev pub Removes : GuardTold → GuardTold → List ℕ → Result Said WithoutMemory → Type 0
Removes old new key result =
    Guards (AreGates removal_gates old.directory key) (RemoveAnswers old.desk new.desk old.directory key) (after_yes old.directory) old new result

-- ---- getting ready

-- the old files are cleared away by the remote that sweeps
abbrev pub SweptAs : Bool → Option (List ℕ) → List Step → Result (Unit {0}) WithoutMemory → Type 0
SweptAs false directory steps done = (steps ≡ []) × IsOk done
SweptAs true None steps done = (steps ≡ []) × IsOk done
SweptAs true (Some directory) steps done = SweepsBy directory steps done

abbrev pub YesAfter : Result (Unit {0}) WithoutMemory → Result Said WithoutMemory → Type 0
YesAfter (Ok done) result = result ≡ Ok Yes
YesAfter (Err e) result = IsErr result

-- DIRECTORY was found there, or isn't whole, and was cleared
pub record IsCleared (sweeps : Bool) (directory : Option (List ℕ)) (steps : List Step) (result : Result Said WithoutMemory) : Type 0 where
  pub first : List Step
  pub more : List Step
  pub whole : steps ≡ first ++ more
  pub passed : Passes (looks_of directory) first
  pub done : Result (Unit {0}) WithoutMemory
  pub swept : SweptAs sweeps directory more done
  pub yes : YesAfter done result

-- or it wasn't, and its sentence is said
abbrev pub Enters : Bool → Option (List ℕ) → List Step → Result Said WithoutMemory → Type 0
Enters sweeps directory steps result = IsHeld (looks_of directory) steps result ⊎ IsCleared sweeps directory steps result

-- The remote inside gets ready, and where it says Yes, DIRECTORY is looked at. The desk is untouched.
pub record Readies (sweeps : Bool) (value : List ℕ) (old new : GuardTold) (steps : List Step) (result : Result Said WithoutMemory) : Type 0 where
  pub desk : new.desk ≡ old.desk
  pub mark : new.mark ≡ old.mark
  pub said : Result Said WithoutMemory
  pub prepares : Prepares value old.directory new.directory said
  pub ready : said ≡ Ok Yes → Enters sweeps new.directory steps result
  pub unready : said ≢ Ok Yes → (steps ≡ []) × (result ≡ said)

abbrev pub ReadiesBy : Bool → List ℕ → GuardTold → GuardTold → Result Said WithoutMemory → Type 0
ReadiesBy sweeps value old new result = (steps : List Step) × Adds old.steps new.steps steps × Readies sweeps value old new steps result

-- a directory that isn't whole
abbrev pub is_relative : List ℕ → Bool
is_relative [] = false
is_relative (b ∷ bytes) = not (b == 47)

-- nothing but calls of the place was made
pub record IsIdle (old new : GuardTold) : Type 0 where
  pub desk : new.desk ≡ old.desk
  pub mark : new.mark ≡ old.mark
  pub directory : new.directory ≡ old.directory

-- A whole DIRECTORY is made where that can be, and its sign left in it.
pub record Founds (sweeps : Bool) (value : List ℕ) (old new : GuardTold) (result : Result Said WithoutMemory) : Type 0 where
  pub first : List Step
  pub more : List Step
  pub added : Adds old.steps new.steps (first ++ more)
  pub course : (IsIdle old new × IsHeld (record { want = Founded; path = value } ∷ []) first result × (more ≡ []))
      ⊎ (Passes (record { want = Founded; path = value } ∷ []) first × Readies sweeps value old new more result)

-- ---- a relative directory

abbrev pub IsRefused : Result Said WithoutMemory → Type 0
IsRefused result = IfOk result (λ said. said ≡ Failure (line_of relative_sentence))

-- a path from the root that a host can keep: a line can hold it
abbrev pub is_kept : List ℕ → Bool
is_kept path = is_whole path && not (has_newline path)

-- the host is to keep this directory
abbrev pub keeping : List ℕ → Said
keeping path = Set (record { name = codes "directory"; text = path } ∷ [])

-- where the directory got ready, the host is told to keep its path
abbrev pub kept_as : List ℕ → Result Said WithoutMemory → Result Said WithoutMemory
kept_as path (Ok Yes) = Ok (keeping path)
kept_as path result = result

-- The directory of that path is set up, and the host told to keep the path; or no memory was found before anything was done.
abbrev pub SetsUpKept : Bool → List ℕ → GuardTold → GuardTold → Result Said WithoutMemory → Type 0
SetsUpKept sweeps path old new result =
    ((new ≡ old) × IsErr result) ⊎ ((said : Result Said WithoutMemory) × Founds sweeps path old new said × (result ≡ kept_as path said))

-- a path that a host can't keep is refused
abbrev pub SetsUpIf : Bool → Bool → List ℕ → GuardTold → GuardTold → Result Said WithoutMemory → Type 0
SetsUpIf true sweeps path old new result = SetsUpKept sweeps path old new result
SetsUpIf false sweeps path old new result = (new ≡ old) × IsRefused result

-- as the place spelled the path; where it can't, the value is refused
abbrev pub SetsUpSpelled : Bool → Option (List ℕ) → GuardTold → GuardTold → Result Said WithoutMemory → Type 0
SetsUpSpelled sweeps None old new result = (new ≡ old) × IsRefused result
SetsUpSpelled sweeps (Some path) old new result = SetsUpIf (is_kept path) sweeps path old new result

abbrev pub spelled_by : List ℕ → Option (List ℕ) → GuardTold → GuardTold
spelled_by value path old = record old { steps = option_map (λ (steps : List Step). steps ++ Spelled value path ∷ []) old.steps }

-- The place is asked for the path from the root, and the directory is set up by that.
abbrev pub SetsUpRelative : Bool → List ℕ → GuardTold → GuardTold → Result Said WithoutMemory → Type 0
SetsUpRelative sweeps value old new result =
    ((new ≡ old) × IsErr result) ⊎ ((path : Option (List ℕ)) × SetsUpSpelled sweeps path (spelled_by value path old) new result)

-- A relative value is set up by its path from the root; of a whole one the directory is set up, and then the remote gets ready.
pub record Initializes (sweeps : Bool) (value : List ℕ) (old new : GuardTold) (result : Result Said WithoutMemory) : Type 0 where
  pub relative : IsTrue (is_relative value) → IsUtf8 value → SetsUpRelative sweeps value old new result
  pub no_relative : IsTrue (is_relative value) → ¬ (IsUtf8 value) → (new ≡ old) × IsRefused result
  pub founds : IsTrue (is_whole value) → IsUtf8 value → Founds sweeps value old new result
  pub no_text : IsTrue (is_whole value) → ¬ (IsUtf8 value) → ReadiesBy sweeps value old new result
  pub empty : value ≡ [] → ReadiesBy sweeps value old new result
