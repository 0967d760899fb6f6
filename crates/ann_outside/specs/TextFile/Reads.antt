-- What reading a whole file asks of a desk, and what it comes to.
use Rattle.std.specs.Prelude.{ℕ, ◌≡◌, ◌≢◌, ◌≤◌, ◌<◌, ◌+◌, ◌⊎◌, ⊤, Bool, true, false, List, [], ◌∷◌, ◌++◌, length, take, Option, Some, None, Result, Ok, Err}
use Rattle.std.specs.List.{concat}
use Rattle.ann_key.specs.declared.bytes.NoMemory.{NoMemory}
use Rattle.ann_outside.specs.Causes.{Rose}
use Rattle.ann_outside.specs.Calls.{Log, Gained}
use Rattle.ann_outside.specs.DeskCauses.{Counts}
use Rattle.ann_outside.specs.Files.{Files, content}
use Rattle.ann_outside.specs.declared.file_desk.DeskError.{DeskError}
use Rattle.ann_outside.specs.declared.file_desk.DeskError.TheVariants as E
use Rattle.ann_outside.specs.declared.file_desk.Call.{Call}
use Rattle.ann_outside.specs.declared.file_desk.Call.TheVariants.{ReadAt}
use Rattle.ann_outside.specs.declared.text_file.reading.FileRead.{FileRead}
use Rattle.ann_outside.specs.declared.text_file.reading.FileRead.TheVariants.{Text, TooLarge, Missing, Fault}

-- ---- the calls

-- those that read these pieces of a file, one after the other, from a place on
abbrev pub read_calls : List ℕ → ℕ → List (List ℕ) → List Call
read_calls name at [] = []
read_calls name at (piece ∷ pieces) = ReadAt name at (Ok piece) ∷ read_calls name (at + length piece) pieces

-- none, or a piece that was read and not kept
abbrev pub EndsUnkept : List ℕ → ℕ → List Call → Type 0
EndsUnkept name at calls = (calls ≡ []) ⊎ ((piece : List ℕ) × (calls ≡ ReadAt name at (Ok piece) ∷ []))

-- The call after those bytes: at the file's end it gives nothing, and a refusal is its answer. Past the limit there is none.
abbrev pub EndsRead : List ℕ → ℕ → List ℕ → Result FileRead NoMemory → List Call → Type 0
EndsRead name limit bytes (Ok (Text text)) calls = (text ≡ bytes) × (length bytes ≤ limit) × (calls ≡ ReadAt name (length bytes) (Ok []) ∷ [])
EndsRead name limit bytes (Ok TooLarge) calls = (limit < length bytes) × (calls ≡ [])
EndsRead name limit bytes (Ok Missing) calls = calls ≡ ReadAt name (length bytes) (Err E.Missing) ∷ []
EndsRead name limit bytes (Ok Fault) calls = calls ≡ ReadAt name (length bytes) (Err E.Failed) ∷ []
EndsRead name limit bytes (Err e) calls = EndsUnkept name (length bytes) calls

-- The file was read from its begin on, piece by piece, and this came of it.
pub record IsReadBy (old new : Option Log) (name : List ℕ) (limit : ℕ) (result : Result FileRead NoMemory) : Type 0 where
  pub pieces : List (List ℕ)
  pub ending : List Call
  pub calls : Gained old new (read_calls name 0 pieces ++ ending)
  pub ends : EndsRead name limit (concat pieces) result ending

-- ---- the file

-- the file is this text, has more bytes than it may, or isn't there
abbrev pub IsReadOf : List ℕ → ℕ → Files → Result FileRead NoMemory → Type 0
IsReadOf name limit files (Ok (Text text)) = content name files ≡ Some text
IsReadOf name limit files (Ok TooLarge) = (bytes : List ℕ) × (content name files ≡ Some bytes) × (limit < length bytes)
IsReadOf name limit files (Ok Missing) = content name files ≡ None
IsReadOf name limit files (Ok Fault) = ⊤
IsReadOf name limit files (Err e) = ⊤

-- ---- the causes

-- a call was refused, and that was counted
abbrev pub is_counted : Result FileRead NoMemory → Bool
is_counted (Ok Fault) = true
is_counted (Ok Missing) = true
is_counted (Ok TooLarge) = false
is_counted (Ok (Text text)) = false
is_counted (Err e) = false

-- No count has fallen, and a fault and a missing file come only where theirs rose. Anything else leaves both as they were.
pub record HasReadCauses (old new : Counts) (result : Result FileRead NoMemory) : Type 0 where
  pub faults_later : old.faults ≤ new.faults
  pub missing_later : old.missing ≤ new.missing
  pub fault : result ≡ Ok Fault → Rose old.faults new.faults
  pub missing : result ≡ Ok Missing → Rose old.missing new.missing
  pub quiet : is_counted result ≡ false → new ≡ old

abbrev pub refusal_of : DeskError → Result FileRead NoMemory
refusal_of E.Failed = Ok Fault
refusal_of E.Missing = Ok Missing
refusal_of E.NoMemory = Err record {}

-- ---- one piece

abbrev pub EndsStep : List ℕ → ℕ → DeskError → List Call → Type 0
EndsStep name at E.NoMemory calls = EndsUnkept name at calls
EndsStep name at E.Failed calls = calls ≡ ReadAt name at (Err E.Failed) ∷ []
EndsStep name at E.Missing calls = calls ≡ ReadAt name at (Err E.Missing) ∷ []

-- one more piece was read, or the end was met, or a call was refused
abbrev pub IsStep : Option Log → Option Log → List ℕ → List ℕ → List ℕ → Result Bool DeskError → Type 0
IsStep old new name bytes bytes' (Ok true) =
    (piece : List ℕ) × Gained old new (ReadAt name (length bytes) (Ok piece) ∷ []) × (bytes' ≡ bytes ++ piece) × (0 < length piece)
IsStep old new name bytes bytes' (Ok false) = Gained old new (ReadAt name (length bytes) (Ok []) ∷ []) × (bytes' ≡ bytes)
IsStep old new name bytes bytes' (Err e) = (ending : List Call) × Gained old new ending × EndsStep name (length bytes) e ending

-- these are the first bytes of the file, where there is one
abbrev pub AreFirst : List ℕ → List ℕ → Files → Type 0
AreFirst bytes name files = (all : List ℕ) → content name files ≡ Some all → bytes ≡ take (length bytes) all

-- the file goes on so, or ends here, or isn't there
abbrev pub IsStepOf : List ℕ → List ℕ → List ℕ → Files → Result Bool DeskError → Type 0
IsStepOf name bytes bytes' files (Ok true) = (content name files ≢ None) × (AreFirst bytes name files → AreFirst bytes' name files)
IsStepOf name bytes bytes' files (Ok false) = AreFirst bytes name files → content name files ≡ Some bytes
IsStepOf name bytes bytes' files (Err E.Missing) = content name files ≡ None
IsStepOf name bytes bytes' files (Err E.Failed) = ⊤
IsStepOf name bytes bytes' files (Err E.NoMemory) = ⊤

-- the pieces that were read so far
pub record IsReading (old new : Option Log) (name bytes : List ℕ) : Type 0 where
  pub pieces : List (List ℕ)
  pub all : concat pieces ≡ bytes
  pub calls : Gained old new (read_calls name 0 pieces)

-- they are the first bytes of the file, and where there are some, there is a file
pub record IsReadingOf (name bytes : List ℕ) (files : Files) : Type 0 where
  pub first : AreFirst bytes name files
  pub there : 0 < length bytes → content name files ≢ None
