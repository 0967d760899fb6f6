-- What a kept file at a desk hands on, and how another one takes its place.
use Rattle.std.specs.Prelude.{ℕ, ◌≡◌, ◌≢◌, ◌≤◌, ◌<◌, ◌⊎◌, ⊤, List, [], length, Option, None, Some, unwrap_or, Result, Ok, Err}
use Rattle.ann_key.specs.declared.bytes.NoMemory.{NoMemory}
use Rattle.ann_outside.specs.Calls.{Log}
use Rattle.ann_outside.specs.Causes.{Rose}
use Rattle.ann_outside.specs.DeskCauses.{Counts}
use Rattle.ann_outside.specs.Files.{Files, content, OthersStay}
use Rattle.ann_outside.specs.declared.file_desk.DeskError.{DeskError}
use Rattle.ann_outside.specs.declared.file_desk.DeskError.TheVariants as E
use Rattle.ann_outside.specs.TextFile.Reads.{IsReadBy}
use Rattle.ann_outside.specs.TextFile.Writes.{new_name, Replaces, IsReplacedBy}
use Rattle.ann_outside.specs.declared.text_file.reading.FileRead.{FileRead}
use Rattle.ann_outside.specs.declared.text_file.reading.FileRead.TheVariants as F
use Rattle.kept_file.specs.Text.KeptFiles.{bad_line, registers_of, notes_of, CountsAs}
use Rattle.kept_file.specs.declared.desk.reading.KeptRead.{KeptRead}
use Rattle.kept_file.specs.declared.desk.reading.KeptRead.TheVariants.{Kept, BadLine, TooLarge, Fault}
use Rattle.kept_file.specs.declared.desk.writing.KeptWritten.{KeptWritten}
use Rattle.kept_file.specs.declared.desk.writing.KeptWritten.TheVariants as W
use Rattle.kept_file.specs.declared.desk.TheConstants.{MOST_BYTES}

-- ---- reading

-- what the text hands on, or its first bad line
abbrev pub IsKeptOf : List ℕ → Result KeptRead NoMemory → Type 0
IsKeptOf text (Ok (Kept registers notes)) = (bad_line text ≡ None) × (registers ≡ registers_of text) × CountsAs notes (notes_of text)
IsKeptOf text (Ok (BadLine line)) = bad_line text ≡ Some line
IsKeptOf text (Ok TooLarge) = ⊥
IsKeptOf text (Ok Fault) = ⊥
IsKeptOf text (Err e) = ⊤

-- what a file that was read so comes to; a missing one hands on what an empty one does
abbrev pub FileComesTo : Result FileRead NoMemory → Result KeptRead NoMemory → Type 0
FileComesTo (Ok (F.Text text)) result = IsKeptOf text result
FileComesTo (Ok F.Missing) result = IsKeptOf [] result
FileComesTo (Ok F.TooLarge) result = result ≡ Ok TooLarge
FileComesTo (Ok F.Fault) result = result ≡ Ok Fault
FileComesTo (Err e) result = result ≡ Err e

-- the file was read whole or as far as it may be, and this is what it comes to
abbrev pub IsReadAs : Option Log → Option Log → List ℕ → Result KeptRead NoMemory → Type 0
IsReadAs old new name result = (read : Result FileRead NoMemory) × IsReadBy old new name MOST_BYTES read × FileComesTo read result

-- the text of the file, which is empty where there is none
abbrev pub text_at : List ℕ → Files → List ℕ
text_at name files = unwrap_or (content name files) []

-- the file hands this on, where files are told
abbrev pub IsKeptAt : List ℕ → Files → Result KeptRead NoMemory → Type 0
IsKeptAt name files (Ok (Kept registers notes)) = IsKeptOf (text_at name files) (Ok (Kept registers notes))
IsKeptAt name files (Ok (BadLine line)) = bad_line (text_at name files) ≡ Some line
IsKeptAt name files (Ok TooLarge) = MOST_BYTES < length (text_at name files)
IsKeptAt name files (Ok Fault) = ⊤
IsKeptAt name files (Err e) = ⊤

-- No count has fallen, and a fault comes only where that of faults rose.
pub record HasKeptCauses (old new : Counts) (result : Result KeptRead NoMemory) : Type 0 where
  pub faults_later : old.faults ≤ new.faults
  pub missing_later : old.missing ≤ new.missing
  pub fault : result ≡ Ok Fault → Rose old.faults new.faults

-- ---- writing

abbrev pub written_as : Result (Unit {0}) DeskError → Result KeptWritten NoMemory
written_as (Ok done) = Ok W.Done
written_as (Err E.Failed) = Ok W.Fault
written_as (Err E.Missing) = Ok W.Fault
written_as (Err E.NoMemory) = Err record {}

-- the text is too large and nothing was asked of the desk; or it took the file's place, or a call was refused
abbrev pub IsWrittenBy : Option Log → Option Log → List ℕ → List ℕ → Result KeptWritten NoMemory → Type 0
IsWrittenBy old new name text (Ok W.TooLarge) = (MOST_BYTES < length text) × (new ≡ old)
IsWrittenBy old new name text (Ok W.Done) = (length text ≤ MOST_BYTES) × Replaces old new name text (Ok tt)
IsWrittenBy old new name text (Ok W.Fault) =
    Replaces old new name text (Err E.Failed) ⊎ Replaces old new name text (Err E.Missing)
IsWrittenBy old new name text (Err e) = Replaces old new name text (Err E.NoMemory) ⊎ (new ≡ old)

-- the file has the text, or is as before
abbrev pub IsWrittenIn : List ℕ → List ℕ → Result KeptWritten NoMemory → Files → Files → Type 0
IsWrittenIn name text (Ok W.Done) old new = IsReplacedBy name text (Ok tt) old new
IsWrittenIn name text (Ok W.TooLarge) old new = new ≡ old
IsWrittenIn name text (Ok W.Fault) old new = OthersStay (λ other. other ≡ new_name name) old new
IsWrittenIn name text (Err e) old new = OthersStay (λ other. other ≡ new_name name) old new

-- No count has fallen. A fault comes only where the count of faults rose, or that of missing files where none are told; and else
-- both are as before.
pub record HasWriteCauses (files : Option Files) (old new : Counts) (result : Result KeptWritten NoMemory) : Type 0 where
  pub faults_later : old.faults ≤ new.faults
  pub missing_later : old.missing ≤ new.missing
  pub fault : result ≡ Ok W.Fault → Rose old.faults new.faults ⊎ ((files ≡ None) × Rose old.missing new.missing)
  pub quiet : result ≢ Ok W.Fault → new ≡ old
