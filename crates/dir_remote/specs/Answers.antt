-- What each call of the directory remote does and says.
use Rattle.std.specs.Prelude.{ℕ, ◌≡◌, ◌≢◌, ◌⊎◌, Bool, true, false, List, ◌∷◌, [], Option, Some, None, IsTrue, IfSome, OnOk, OnErr, Result}
use Rattle.std.specs.Str.{IsUtf8}
use Rattle.ann_key.specs.FileNames.{file_name_of}
use Rattle.ann_key.specs.declared.bytes.NoMemory.{NoMemory as WithoutMemory}
use Rattle.ann_outside.specs.DeskCauses.{Counts}
use Rattle.ann_outside.specs.Files.{Files, content, OthersStay, AllStay, WhereTold}
use Rattle.ann_outside.specs.Told.{DeskTold}
use Rattle.kit_serve.specs.declared.kit.call.Said.{Said}
use Rattle.dir_remote.specs.Contents.{IsContentName, IsOutside, OutsideStays, OtherKeysStay, KeysStay}
use Rattle.ann_outside.specs.declared.file_desk.Call.{Call}
use Rattle.dir_remote.specs.Traces.{Traced}
use Rattle.dir_remote.specs.Outcomes.{Says, HasOutcomeCauses, TextFits, PreparedFits}
use Rattle.dir_remote.specs.declared.outcome.Outcome.{Outcome}
use Rattle.dir_remote.specs.declared.outcome.Outcome.TheVariants.{Done, NotThere, NotPrepared, NoDirectory, NotText, DiskFailed, NoSuchFile, NoMemory}

-- No and `no directory` are no words of these calls
abbrev pub is_of_transfer : Outcome → Bool
is_of_transfer NotThere = false
is_of_transfer NoDirectory = false
is_of_transfer outcome = true

-- neither are these, `no such file` and `no directory`, of a check
abbrev pub is_of_check : Outcome → Bool
is_of_check NoSuchFile = false
is_of_check NoDirectory = false
is_of_check outcome = true

-- and these and No of a removal
abbrev pub is_of_removal : Outcome → Bool
is_of_removal NotThere = false
is_of_removal outcome = is_of_check outcome

-- The content under the key is that of the file, or as before where the answer isn't Yes. A file that is said to be missing is.
abbrev pub StoredUnder : List ℕ → List ℕ → List ℕ → Outcome → Files → Files → Type 0
StoredUnder directory file name Done old new = IsOutside directory file → (content file old ≢ None) × (content name new ≡ content file old)
StoredUnder directory file name NoSuchFile old new = (content name new ≡ content name old) × (IsOutside directory file → content file old ≡ None)
StoredUnder directory file name outcome old new = content name new ≡ content name old

-- a store over a desk that tells its files
pub record StoreDoes (directory key file : List ℕ) (outcome : Outcome) (old new : Files) : Type 0 where
  pub this : (name : List ℕ) → IsContentName directory key name → StoredUnder directory file name outcome old new
  pub other_keys : OtherKeysStay directory key old new
  pub outside : OutsideStays directory old new

-- The file has the content of the key. A content that is said to be missing is, and then nothing is made.
abbrev pub RetrievedTo : List ℕ → List ℕ → Outcome → Files → Files → Type 0
RetrievedTo file name Done old new = (content name old ≢ None) × (content file new ≡ content name old)
RetrievedTo file name NoSuchFile old new = (content name old ≡ None) × AllStay old new
RetrievedTo file name outcome old new = Unit {0}

pub record RetrieveDoes (directory key file : List ℕ) (outcome : Outcome) (old new : Files) : Type 0 where
  pub this : IsOutside directory file → (name : List ℕ) → IsContentName directory key name → RetrievedTo file name outcome old new
  pub keys : IsOutside directory file → KeysStay directory old new
  pub others : OthersStay (λ other. other ≡ file) old new

-- The answer is whether there is a content.
abbrev pub FoundUnder : Option (List ℕ) → Outcome → Type 0
FoundUnder held Done = held ≢ None
FoundUnder held NotThere = held ≡ None
FoundUnder held outcome = Unit {0}

pub record CheckDoes (directory key : List ℕ) (outcome : Outcome) (old new : Files) : Type 0 where
  pub this : (name : List ℕ) → IsContentName directory key name → FoundUnder (content name old) outcome
  pub all : AllStay old new

-- There is no content, or it is as before where the answer isn't Yes.
abbrev pub RemovedUnder : List ℕ → Outcome → Files → Files → Type 0
RemovedUnder name Done old new = content name new ≡ None
RemovedUnder name outcome old new = content name new ≡ content name old

pub record RemoveDoes (directory key : List ℕ) (outcome : Outcome) (old new : Files) : Type 0 where
  pub this : (name : List ℕ) → IsContentName directory key name → RemovedUnder name outcome old new
  pub other_keys : OtherKeysStay directory key old new
  pub outside : OutsideStays directory old new

-- what a call that knows its directory did, and how it went
pub record Works (is_word : Outcome → Bool) (Does : Outcome → Files → Files → Type 0) (key : List ℕ) (old new : DeskTold) (outcome : Outcome) : Type 0 where
  pub word : IsTrue (is_word outcome)
  pub prepared : outcome ≢ NotPrepared
  pub text : TextFits (file_name_of key) outcome
  pub causes : HasOutcomeCauses old.counts new.counts outcome
  pub files_do : WhereTold old.files new.files (Does outcome)

-- A call that isn't said to have failed at the disk counted no fault; a file that is cleared away after a failure may fail to go.
abbrev pub IsCalm : Bool → Counts → Counts → Outcome → Type 0
IsCalm clears old new outcome = (clears ≡ false) ⊎ (outcome ≡ Done) → outcome ≢ DiskFailed → new.faults ≡ old.faults

-- A call that works in the directory, where one was given, makes these calls on the desk, and says how that went. Without a directory
-- nothing is done.
pub record Answers (is_word : Outcome → Bool) (Does : List ℕ → Outcome → Files → Files → Type 0) (Traces : List ℕ → Outcome → List Call → Type 0)
    (clears : Bool) (directory : Option (List ℕ)) (key : List ℕ) (old new : DeskTold) (result : Result Said WithoutMemory) : Type 0 where
  pub outcome : Outcome
  pub says : Says outcome result
  pub prepared : PreparedFits directory outcome
  pub works : IfSome directory (λ d. Works is_word (Does d) key old new outcome)
  pub traced : IfSome directory (λ d. Traced (Traces d outcome) old.log new.log)
  pub calm : IfSome directory (λ d. IsCalm clears old.counts new.counts outcome)
  pub idle : directory ≡ None → new ≡ old

-- the first value, or an empty one where there is none
abbrev pub first_of : List (List ℕ) → List ℕ
first_of [] = []
first_of (value ∷ more) = value

-- The directory is the value, where it is text and not empty.
abbrev pub PreparedBy : List ℕ → Outcome → Option (List ℕ) → Type 0
PreparedBy value Done directory = (value ≢ []) × IsUtf8 value × (directory ≡ Some value)
PreparedBy value NoDirectory directory = (value ≡ []) × (directory ≡ None)
PreparedBy value NotText directory = (value ≢ []) × (¬ (IsUtf8 value)) × (directory ≡ None)
PreparedBy value NoMemory directory = IsUtf8 value
PreparedBy value outcome directory = ⊥

-- what a preparation makes of the value, and says; without memory the directory stays
pub record Prepares (value : List ℕ) (directory directory_after : Option (List ℕ)) (result : Result Said WithoutMemory) : Type 0 where
  pub outcome : Outcome
  pub says : Says outcome result
  pub by_value : OnOk result (PreparedBy value outcome directory_after)
  pub stays : OnErr result (directory_after ≡ directory)

-- what contracts see of a directory remote
pub record DirValue (D : Type 0) : Type 0 where
  pub mark : Option (List ℕ)
  pub directory : Option (List ℕ)
  pub desk : D
