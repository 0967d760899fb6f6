-- What a copy does at a desk.
use Rattle.std.specs.Prelude.{ℕ, zero, suc, ◌≡◌, ◌≤◌, ◌+◌, ◌-◌, Bool, true, false, List, [], ◌∷◌, ◌++◌, length, take, Option, Result, Ok, Err}
use Rattle.std.specs.List.{concat}
use Rattle.ann_key.specs.Keys.{Parts}
use Rattle.ann_key.specs.declared.bytes.NoMemory.{NoMemory}
use Rattle.ann_digest.specs.Checkers.{Holds, taken_of}
use Rattle.ann_digest.specs.declared.checker.Checker.{Checker}
use Rattle.ann_outside.specs.Causes.{Rose}
use Rattle.ann_outside.specs.Calls.{Log, Gained}
use Rattle.ann_outside.specs.DeskCauses.{Counts}
use Rattle.ann_outside.specs.declared.file_desk.DeskError.{DeskError}
use Rattle.ann_outside.specs.declared.file_desk.DeskError.TheVariants as E
use Rattle.ann_outside.specs.declared.file_desk.Call.{Call}
use Rattle.ann_outside.specs.declared.file_desk.Call.TheVariants.{ReadAt, Append}
use Rattle.task_model.specs.declared.copying.copied.Copied.{Copied}
use Rattle.task_model.specs.declared.copying.copied.Copied.TheVariants.{Done, Fault, Missing}

-- the calls that read these pieces of one file, from a place on, and append each to another
abbrev pub copy_calls : List ℕ → List ℕ → ℕ → List (List ℕ) → List Call
copy_calls from to at [] = []
copy_calls from to at (piece ∷ pieces) =
    ReadAt from at (Ok piece) ∷ Append to piece (Ok tt) ∷ copy_calls from to (at + length piece) pieces

-- the call that was refused, and what it was to append
abbrev pub RefusedBy : DeskError → List ℕ → List ℕ → ℕ → List Call → Type 0
RefusedBy e from to at [] = ⊥
RefusedBy e from to at (call ∷ []) = call ≡ ReadAt from at (Err e)
RefusedBy e from to at (call ∷ next ∷ []) = (piece : List ℕ) × (call ≡ ReadAt from at (Ok piece)) × (next ≡ Append to piece (Err e))
RefusedBy e from to at (call ∷ next ∷ another ∷ more) = ⊥

-- nothing, or a piece that was read and not written
abbrev pub EndsEarly : List ℕ → ℕ → List Call → Type 0
EndsEarly from at [] = Unit {0}
EndsEarly from at (call ∷ []) = (piece : List ℕ) × (call ≡ ReadAt from at (Ok piece))
EndsEarly from at (call ∷ next ∷ more) = ⊥

-- what is left where a call of the desk was refused
abbrev pub EndsRefused : DeskError → List ℕ → List ℕ → ℕ → List Call → Type 0
EndsRefused E.NoMemory from to at calls = EndsEarly from at calls
EndsRefused E.Failed from to at calls = RefusedBy E.Failed from to at calls
EndsRefused E.Missing from to at calls = RefusedBy E.Missing from to at calls

-- nothing where all was copied, or a read at the end of the file
abbrev pub EndsWhole : List ℕ → ℕ → ℕ → List Call → Type 0
EndsWhole from at left [] = left ≡ 0
EndsWhole from at left (call ∷ []) = call ≡ ReadAt from at (Ok [])
EndsWhole from at left (call ∷ next ∷ more) = ⊥

-- the calls after the last piece that was copied
abbrev pub EndsCopy : List ℕ → List ℕ → ℕ → ℕ → Result Copied NoMemory → List Call → Type 0
EndsCopy from to at left (Ok (Done n)) calls = EndsWhole from at left calls
EndsCopy from to at left (Ok Fault) calls = RefusedBy E.Failed from to at calls
EndsCopy from to at left (Ok Missing) calls = RefusedBy E.Missing from to at calls
EndsCopy from to at left (Err e) calls = EndsEarly from at calls

-- what a copy answers where a call was refused
abbrev pub refusal_of : DeskError → Result Copied NoMemory
refusal_of E.Failed = Ok Fault
refusal_of E.Missing = Ok Missing
refusal_of E.NoMemory = Err record {}

abbrev pub CountIs : Result Copied NoMemory → ℕ → Type 0
CountIs (Ok (Done n)) length = n ≡ length
CountIs (Ok Fault) length = Unit {0}
CountIs (Ok Missing) length = Unit {0}
CountIs (Err e) length = Unit {0}

-- the checker took in these bytes, whatever it held
pub record Checks (before after : Checker) (bytes : List ℕ) : Type 0 where
  pub taken : taken_of after ≡ taken_of before + length bytes
  pub holds : (key : Parts) (held : List ℕ) → Holds before key held → Holds after key (held ++ bytes)

-- ---- one piece

-- These bytes at the front of a buffer were read and appended; of none the read alone was made. Else a call was refused.
abbrev pub CarryDoes : Option Log → Option Log → List ℕ → List ℕ → ℕ → List ℕ → Result ℕ DeskError → Type 0
CarryDoes old new from to at buffer (Ok zero) = Gained old new (ReadAt from at (Ok []) ∷ [])
CarryDoes old new from to at buffer (Ok (suc n)) =
    Gained old new (ReadAt from at (Ok (take (suc n) buffer)) ∷ Append to (take (suc n) buffer) (Ok tt) ∷ [])
CarryDoes old new from to at buffer (Err e) = (ending : List Call) × Gained old new ending × EndsRefused e from to at ending

-- a piece of n bytes was read, appended and checked
pub record Moves (old new : Option Log) (from to : List ℕ) (at : ℕ) (before after : Checker) (n : ℕ) : Type 0 where
  pub piece : List ℕ
  pub size : length piece ≡ n
  pub calls : Gained old new (ReadAt from at (Ok piece) ∷ Append to piece (Ok tt) ∷ [])
  pub checked : Checks before after piece

-- a call was refused, and nothing was checked
pub record Refuses (old new : Option Log) (from to : List ℕ) (at : ℕ) (before after : Checker) (e : DeskError) : Type 0 where
  pub ending : List Call
  pub calls : Gained old new ending
  pub ends : EndsRefused e from to at ending
  pub same : after ≡ before

abbrev pub StepDoes : Option Log → Option Log → List ℕ → List ℕ → ℕ → Checker → Checker → Result ℕ DeskError → Type 0
StepDoes old new from to at before after (Ok zero) = Gained old new (ReadAt from at (Ok []) ∷ []) × (after ≡ before)
StepDoes old new from to at before after (Ok (suc n)) = Moves old new from to at before after (suc n)
StepDoes old new from to at before after (Err e) = Refuses old new from to at before after e

-- ---- many

-- The pieces that were read, in their order, were appended and checked.
pub record Moving (old new : Option Log) (from to : List ℕ) (before after : Checker) (at : ℕ) : Type 0 where
  pub pieces : List (List ℕ)
  pub length_is : length (concat pieces) ≡ at
  pub calls : Gained old new (copy_calls from to 0 pieces)
  pub checked : Checks before after (concat pieces)

-- The pieces that were read, in their order, were appended and checked: of no more than n bytes.
pub record Copies (old new : Option Log) (from to : List ℕ) (n : ℕ) (before after : Checker) (result : Result Copied NoMemory) : Type 0 where
  pub pieces : List (List ℕ)
  pub ending : List Call
  pub calls : Gained old new (copy_calls from to 0 pieces ++ ending)
  pub ends : EndsCopy from to (length (concat pieces)) (n - length (concat pieces)) result ending
  pub count : CountIs result (length (concat pieces))
  pub most : length (concat pieces) ≤ n
  pub checked : Checks before after (concat pieces)

-- ---- counts

-- a call that was refused has counted that
abbrev pub is_refused : Result Copied NoMemory → Bool
is_refused (Ok Fault) = true
is_refused (Ok Missing) = true
is_refused (Ok (Done n)) = false
is_refused (Err e) = false

-- The counts have not fallen, and a fault or a missing file comes only where its count rose. Any other answer leaves them as they were.
pub record CopyCauses (old new : Counts) (result : Result Copied NoMemory) : Type 0 where
  pub faults_later : old.faults ≤ new.faults
  pub missing_later : old.missing ≤ new.missing
  pub fault : result ≡ Ok Fault → Rose old.faults new.faults
  pub missing : result ≡ Ok Missing → Rose old.missing new.missing
  pub quiet : is_refused result ≡ false → new ≡ old
