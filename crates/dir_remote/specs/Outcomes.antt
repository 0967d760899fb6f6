-- How a call of the directory remote went, and what is said of it.
use Rattle.std.specs.Prelude.{ℕ, ◌≡◌, ◌≤◌, ⊤, codes, List, Option, Some, None, Result, Ok, IfOk}
use Rattle.std.specs.Str.{IsUtf8}
use Rattle.ann_key.specs.FileNames.{file_name_of}
use Rattle.ann_key.specs.declared.bytes.NoMemory.{NoMemory as WithoutMemory}
use Rattle.ann_outside.specs.Causes.{Rose}
use Rattle.ann_outside.specs.DeskCauses.{Counts}
use Rattle.ann_outside.specs.declared.file_desk.DeskError.{DeskError}
use Rattle.ann_outside.specs.declared.file_desk.DeskError.TheVariants.{Failed, Missing, NoMemory as DeskMemory}
use Rattle.kit_serve.specs.declared.kit.call.Said.{Said}
use Rattle.kit_serve.specs.declared.kit.call.Said.TheVariants.{Yes, No, Failure}
use Rattle.dir_remote.specs.declared.outcome.Outcome.{Outcome}
use Rattle.dir_remote.specs.declared.outcome.Outcome.TheVariants.{Done, NotThere, NotPrepared, NoDirectory, NotText, DiskFailed, NoSuchFile, NoMemory}

-- the word for it; there is none for lack of memory
abbrev pub word_of : Outcome → Option Said
word_of Done = Some Yes
word_of NotThere = Some No
word_of NotPrepared = Some (Failure (codes "not prepared"))
word_of NoDirectory = Some (Failure (codes "no directory"))
word_of NotText = Some (Failure (codes "not text"))
word_of DiskFailed = Some (Failure (codes "disk failed"))
word_of NoSuchFile = Some (Failure (codes "no such file"))
word_of NoMemory = None

-- The word is said, or no memory is found for it. Yes and No need none.
pub record Says (outcome : Outcome) (result : Result Said WithoutMemory) : Type 0 where
  pub word : IfOk result (λ said. word_of outcome ≡ Some said)
  pub yes : outcome ≡ Done → result ≡ Ok Yes
  pub no : outcome ≡ NotThere → result ≡ Ok No

-- The counts haven't fallen. `disk failed` is said only where that of the faults rose, `no such file` and No only where
-- that of the missing files did.
pub record HasOutcomeCauses (old new : Counts) (outcome : Outcome) : Type 0 where
  pub faults_later : old.faults ≤ new.faults
  pub missing_later : old.missing ≤ new.missing
  pub failed : outcome ≡ DiskFailed → Rose old.faults new.faults
  pub missing : outcome ≡ NoSuchFile → Rose old.missing new.missing
  pub not_there : outcome ≡ NotThere → Rose old.missing new.missing

-- `not text` is said exactly where the name isn't UTF-8
abbrev pub TextFits : List ℕ → Outcome → Type 0
TextFits name NotText = ¬ (IsUtf8 name)
TextFits name NoMemory = ⊤
TextFits name outcome = IsUtf8 name

-- why bytes gave no text
abbrev pub IsNoText : List ℕ → Outcome → Type 0
IsNoText bytes NotText = ¬ (IsUtf8 bytes)
IsNoText bytes NoMemory = IsUtf8 bytes
IsNoText bytes outcome = ⊥

-- why a key's file got no name
abbrev pub IsUnnamed : List ℕ → Outcome → Type 0
IsUnnamed text NotText = ¬ (IsUtf8 (file_name_of text))
IsUnnamed text NoMemory = ⊤
IsUnnamed text outcome = ⊥

-- `not prepared` is said exactly where no directory was given
abbrev pub PreparedFits : Option (List ℕ) → Outcome → Type 0
PreparedFits None NotPrepared = ⊤
PreparedFits None outcome = ⊥
PreparedFits (Some directory) NotPrepared = ⊥
PreparedFits (Some directory) outcome = ⊤

-- how a call went that the desk refused
abbrev pub refusal_of : DeskError → Outcome
refusal_of Failed = DiskFailed
refusal_of Missing = NoSuchFile
refusal_of DeskMemory = NoMemory
