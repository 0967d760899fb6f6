-- How the text of a run is written at a desk, in pieces of whole lines.
use Rattle.std.specs.Prelude.{ℕ, ◌≡◌, ◌≢◌, ◌≤◌, ◌⊎◌, ◌||◌, Bool, true, nat_le, length, List, [], ◌∷◌, ◌++◌, map, Option, None, Some, Result, Ok, Err}
use Rattle.std.specs.List.{flat_map, list_all}
use Rattle.ann_key.specs.declared.bytes.NoMemory.{NoMemory}
use Rattle.ann_outside.specs.Calls.{Log, logged}
use Rattle.ann_outside.specs.Causes.{Rose}
use Rattle.ann_outside.specs.DeskCauses.{Counts}
use Rattle.ann_outside.specs.Files.{Files, content, AppendDoes, OthersStay, WhereTold}
use Rattle.ann_outside.specs.declared.file_desk.Call.{Call}
use Rattle.ann_outside.specs.declared.file_desk.Call.TheVariants.{Create, Append}
use Rattle.ann_outside.specs.declared.file_desk.DeskError.{DeskError}
use Rattle.ann_outside.specs.declared.file_desk.DeskError.TheVariants as E
use Rattle.annex_model.specs.Lines.{text}
use Rattle.ann_outside.specs.TextFile.Writes.{Makes}
use Rattle.journal_model.specs.declared.entry.Entry.{Entry}
use Rattle.journal_model.specs.declared.opening.Opening.{Opening}
use Rattle.journal_text.specs.Lines.JournalTexts.{journal_lines}
use Rattle.journal_text.specs.declared.file.writing.JournalWritten.{JournalWritten}
use Rattle.journal_text.specs.declared.file.writing.JournalWritten.TheVariants.{Done, Fault}

-- the text of a run: its lines, each with byte 10 after it
abbrev pub journal_text : Opening → List Entry → List ℕ
journal_text o journal = text (journal_lines o journal)

-- a line with byte 10 after it
abbrev pub with_end : List ℕ → List ℕ
with_end line = line ++ 10 ∷ []

-- ---- the calls

-- the text has at most 64 KiB, or is that of a single line
abbrev pub is_piece : List (List ℕ) → Bool
is_piece lines = nat_le (length (text lines)) 65536 || nat_le (length lines) 1

-- the lines, cut into pieces
pub record ArePieces (pieces : List (List (List ℕ))) (lines : List (List ℕ)) : Type 0 where
  pub whole : flat_map (λ piece. piece) pieces ≡ lines
  pub small : list_all is_piece pieces ≡ true

-- each piece is added to the file by a call of its own
abbrev pub piece_appends : List ℕ → List (List (List ℕ)) → List Call
piece_appends name pieces = map (λ piece. Append name (text piece) (Ok tt)) pieces

-- a file is made anew, and each piece is added to it by a call of its own
abbrev pub piece_calls : List ℕ → List (List (List ℕ)) → List Call
piece_calls name pieces = Create name (Ok tt) ∷ piece_appends name pieces

-- the lines are added to the file in pieces
abbrev pub AppendsLines : Option Log → Option Log → List ℕ → List (List ℕ) → Result (Unit {0}) DeskError → Type 0
AppendsLines old new name lines result = (pieces : List (List (List ℕ))) × ArePieces pieces lines × Makes old new (piece_appends name pieces) result

-- a file is made anew, and the lines are added to it in pieces
abbrev pub MakesLines : Option Log → Option Log → List ℕ → List (List ℕ) → Result (Unit {0}) DeskError → Type 0
MakesLines old new name lines result = (pieces : List (List (List ℕ))) × ArePieces pieces lines × Makes old new (piece_calls name pieces) result

-- all of these calls were made, or the first of them and then one that was refused; or all were made and the file's sync was refused,
-- which stands in no log
abbrev pub MakesSynced : Option Log → Option Log → List ℕ → List (List ℕ) → Result (Unit {0}) DeskError → Type 0
MakesSynced old new name lines (Ok done) = MakesLines old new name lines (Ok tt)
MakesSynced old new name lines (Err e) = MakesLines old new name lines (Err e) ⊎ MakesLines old new name lines (Ok tt)

-- the same of the calls that write the lines
abbrev pub IsWrittenBy : Option Log → Option Log → List ℕ → List (List ℕ) → Result JournalWritten NoMemory → Type 0
IsWrittenBy old new name lines (Ok Done) = MakesSynced old new name lines (Ok tt)
IsWrittenBy old new name lines (Ok Fault) = MakesSynced old new name lines (Err E.Failed) ⊎ MakesSynced old new name lines (Err E.Missing)
IsWrittenBy old new name lines (Err e) = MakesSynced old new name lines (Err E.NoMemory)

-- ---- on the way

-- the line, with its end, joined the piece that is held; or that piece was added to the file, and the line is the next one
abbrev pub TakesUp : Option Log → Option Log → Option Files → Option Files → List ℕ → List ℕ → List ℕ → List ℕ → Type 0
TakesUp log log' files files' name held line held' =
    ((held' ≡ held ++ line) × (held ≡ [] ⊎ length held' ≤ 65536) × (log' ≡ log) × (files' ≡ files))
    ⊎ ((held' ≡ line) × (log' ≡ logged log (Append name held (Ok tt))) × WhereTold files files' (AppendDoes name held (Ok tt)))

-- the piece that is held was refused
abbrev pub RefusesPiece : Option Log → Option Log → Option Files → Option Files → List ℕ → List ℕ → DeskError → Type 0
RefusesPiece log log' files files' name held e = (log' ≡ logged log (Append name held (Err e))) × WhereTold files files' (AppendDoes name held (Err e))

-- ---- the files

-- the file was made and has the text; after a refusal it may be there with less of it. No other file is touched
abbrev pub IsMadeAs : List ℕ → List ℕ → Result (Unit {0}) DeskError → Files → Files → Type 0
IsMadeAs name written (Ok done) old new = (content name new ≡ Some written) × OthersStay (λ other. other ≡ name) old new
IsMadeAs name written (Err e) old new = OthersStay (λ other. other ≡ name) old new

-- the file has the text, and no other file is touched; after a refusal the file may be there with less of it
abbrev pub IsWrittenIn : List ℕ → List ℕ → Result JournalWritten NoMemory → Files → Files → Type 0
IsWrittenIn name written (Ok Done) old new = (content name new ≡ Some written) × OthersStay (λ other. other ≡ name) old new
IsWrittenIn name written result old new = OthersStay (λ other. other ≡ name) old new

-- No count has fallen. A fault comes only where the count of faults rose, or that of missing files where none are told; and else
-- both are as before.
pub record HasWriteCauses (files : Option Files) (old new : Counts) (result : Result JournalWritten NoMemory) : Type 0 where
  pub faults_later : old.faults ≤ new.faults
  pub missing_later : old.missing ≤ new.missing
  pub fault : result ≡ Ok Fault → Rose old.faults new.faults ⊎ ((files ≡ None) × Rose old.missing new.missing)
  pub quiet : result ≢ Ok Fault → new ≡ old
