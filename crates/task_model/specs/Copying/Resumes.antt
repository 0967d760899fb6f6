-- What resuming does at a desk: it cuts a file and reads what is left of it.
use Rattle.std.specs.Prelude.{ℕ, zero, suc, ◌≡◌, ◌≤◌, ◌+◌, ◌-◌, ◌⊎◌, List, [], ◌∷◌, ◌++◌, length, Option, Result, Ok, Err}
use Rattle.std.specs.List.{concat}
use Rattle.ann_key.specs.declared.bytes.NoMemory.{NoMemory}
use Rattle.ann_digest.specs.declared.checker.Checker.{Checker}
use Rattle.ann_outside.specs.Calls.{Log, Gained}
use Rattle.ann_outside.specs.declared.file_desk.DeskError.{DeskError}
use Rattle.ann_outside.specs.declared.file_desk.DeskError.TheVariants as E
use Rattle.ann_outside.specs.declared.file_desk.Call.{Call}
use Rattle.ann_outside.specs.declared.file_desk.Call.TheVariants.{ReadAt, Cut}
use Rattle.task_model.specs.declared.copying.copied.Copied.{Copied}
use Rattle.task_model.specs.declared.copying.copied.Copied.TheVariants.{Done, Fault, Missing}
use Rattle.task_model.specs.Copying.Copies.{Checks, CountIs, EndsWhole}

-- ---- a call that comes first

-- The first call was refused, or no memory was found for it or before it. No call followed.
abbrev pub IsNotBegun : (Result (Unit {0}) DeskError → Call) → Option Log → Option Log → Result Copied NoMemory → Type 0
IsNotBegun first old new (Ok (Done n)) = ⊥
IsNotBegun first old new (Ok Fault) = Gained old new (first (Err E.Failed) ∷ [])
IsNotBegun first old new (Ok Missing) = Gained old new (first (Err E.Missing) ∷ [])
IsNotBegun first old new (Err e) = Gained old new []

-- ---- reading

-- A piece of n bytes was read and checked.
pub record ReadsPiece (old new : Option Log) (file : List ℕ) (at : ℕ) (before after : Checker) (n : ℕ) : Type 0 where
  pub piece : List ℕ
  pub size : length piece ≡ n
  pub calls : Gained old new (ReadAt file at (Ok piece) ∷ [])
  pub checked : Checks before after piece

-- the read that was refused; it is in the log unless memory ran out
abbrev pub refused_read : DeskError → List ℕ → ℕ → List Call
refused_read E.NoMemory file at = []
refused_read E.Failed file at = ReadAt file at (Err E.Failed) ∷ []
refused_read E.Missing file at = ReadAt file at (Err E.Missing) ∷ []

abbrev pub ReadDoes : Option Log → Option Log → List ℕ → ℕ → Checker → Checker → Result ℕ DeskError → Type 0
ReadDoes old new file at before after (Ok zero) = Gained old new (ReadAt file at (Ok []) ∷ []) × (after ≡ before)
ReadDoes old new file at before after (Ok (suc n)) = ReadsPiece old new file at before after (suc n)
ReadDoes old new file at before after (Err e) = Gained old new (refused_read e file at) × (after ≡ before)

-- the calls that read these pieces of a file, one after the other from a place on
abbrev pub read_calls : List ℕ → ℕ → List (List ℕ) → List Call
read_calls file at [] = []
read_calls file at (piece ∷ pieces) = ReadAt file at (Ok piece) ∷ read_calls file (at + length piece) pieces

-- the calls after the last piece that was read: none where all was read or no memory was found, else a read at the end of the file, or
-- the one that was refused
abbrev pub EndsReading : List ℕ → ℕ → ℕ → Result Copied NoMemory → List Call → Type 0
EndsReading file at left (Ok (Done n)) calls = EndsWhole file at left calls
EndsReading file at left (Ok Fault) calls = calls ≡ ReadAt file at (Err E.Failed) ∷ []
EndsReading file at left (Ok Missing) calls = calls ≡ ReadAt file at (Err E.Missing) ∷ []
EndsReading file at left (Err e) calls = calls ≡ []

-- These calls and then pieces of the file, from its begin on, in their order and of no more than n bytes, were read and checked.
pub record ReadsOn (before_them : List Call) (old new : Option Log) (file : List ℕ) (n : ℕ) (before after : Checker) (result : Result Copied NoMemory) : Type 0 where
  pub pieces : List (List ℕ)
  pub ending : List Call
  pub calls : Gained old new (before_them ++ read_calls file 0 pieces ++ ending)
  pub ends : EndsReading file (length (concat pieces)) (n - length (concat pieces)) result ending
  pub count : CountIs result (length (concat pieces))
  pub most : length (concat pieces) ≤ n
  pub checked : Checks before after (concat pieces)

-- ---- whole

-- The file was cut to the size, and what it then held was read and checked. Where it wasn't cut, nothing was read.
abbrev pub Resumes : Option Log → Option Log → List ℕ → ℕ → Checker → Checker → Result Copied NoMemory → Type 0
Resumes old new part keep before after result =
    ReadsOn (Cut part keep (Ok tt) ∷ []) old new part keep before after result
    ⊎ (IsNotBegun (λ answer. Cut part keep answer) old new result × (after ≡ before))
