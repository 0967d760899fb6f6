-- The calls that a remote makes on its desk.
use Rattle.std.specs.Prelude.{ℕ, zero, suc, ◌≡◌, ◌+◌, ⊤, Bool, true, false, is_some, List, [], ◌∷◌, ◌++◌, length, Option, Result, Ok, Err}
use Rattle.std.specs.List.{concat}
use Rattle.ann_outside.specs.Calls.{Log, Gained}
use Rattle.ann_outside.specs.declared.file_desk.DeskError.{DeskError}
use Rattle.ann_outside.specs.declared.file_desk.Call.{Call}
use Rattle.ann_outside.specs.declared.file_desk.Call.TheVariants.{Size, ReadAt, Create, Append, Cut, Rename, Remove}
use Rattle.dir_remote.specs.Contents.{IsContentName, temporary_name}
use Rattle.dir_remote.specs.declared.outcome.Outcome.{Outcome}
use Rattle.dir_remote.specs.declared.outcome.Outcome.TheVariants.{Done}

-- each of the list is so
abbrev pub Each : {A : Type 0} → (A → Type 0) → List A → Type 0
Each P [] = ⊤
Each P (x ∷ xs) = P x × Each P xs

-- ---- a copy

-- pieces of a file were read, each from where the last one ended, and each was appended to the other
abbrev pub piece_calls : List ℕ → List ℕ → ℕ → List (List ℕ) → List Call
piece_calls file name at [] = []
piece_calls file name at (piece ∷ pieces) = ReadAt file at (Ok piece) ∷ Append name piece (Ok tt) ∷ piece_calls file name (at + length piece) pieces

-- the other was made, got these pieces, and the file was read to its end
abbrev pub copy_calls : List ℕ → List ℕ → List (List ℕ) → List Call
copy_calls file name pieces = Create name (Ok tt) ∷ (piece_calls file name 0 pieces ++ ReadAt file (length (concat pieces)) (Ok []) ∷ [])

-- the call removes that file, where what failed is cleared away
abbrev pub IsClearing : Bool → List ℕ → Call → Type 0
IsClearing clears name (Remove other answer) = (clears ≡ true) × (other ≡ name)
IsClearing clears name (ReadAt other from answer) = ⊥
IsClearing clears name (Create other answer) = ⊥
IsClearing clears name (Append other piece answer) = ⊥
IsClearing clears name (Size other answer) = ⊥
IsClearing clears name (Cut other size answer) = ⊥
IsClearing clears name (Rename from to answer) = ⊥

-- the call reads the one file, or makes the other, adds to it or clears it away
abbrev pub IsCopyCall : Bool → List ℕ → List ℕ → Call → Type 0
IsCopyCall clears file name (ReadAt other from answer) = other ≡ file
IsCopyCall clears file name (Create other answer) = other ≡ name
IsCopyCall clears file name (Append other piece answer) = other ≡ name
IsCopyCall clears file name (Remove other answer) = (clears ≡ true) × (other ≡ name)
IsCopyCall clears file name (Size other answer) = ⊥
IsCopyCall clears file name (Cut other size answer) = ⊥
IsCopyCall clears file name (Rename from to answer) = ⊥

-- a piece of a copy: none at the file's end
abbrev pub PieceTraces : List ℕ → List ℕ → ℕ → Result ℕ DeskError → List Call → Type 0
PieceTraces file name at (Ok zero) calls = calls ≡ ReadAt file at (Ok []) ∷ []
PieceTraces file name at (Ok (suc n)) calls = (piece : List ℕ) × (length piece ≡ suc n) × (calls ≡ ReadAt file at (Ok piece) ∷ Append name piece (Ok tt) ∷ [])
PieceTraces file name at (Err e) calls = Each (IsCopyCall false file name) calls

-- what a copy added to the log
abbrev pub CopyTraces : Bool → List ℕ → List ℕ → Result (Unit {0}) DeskError → List Call → Type 0
CopyTraces clears file name (Ok done) calls = (pieces : List (List ℕ)) × (calls ≡ copy_calls file name pieces)
CopyTraces clears file name (Err e) calls = Each (IsCopyCall clears file name) calls

-- the log gained calls, of which this holds
pub record Traced (Are : List Call → Type 0) (old new : Option Log) : Type 0 where
  pub calls : List Call
  pub gained : Gained old new calls
  pub are : Are calls

-- ---- a store

-- A store that came to its end: the key's text, the name of its content, the file that was given and the pieces that it was read in.
pub record Store : Type 0 where
  pub text : List ℕ
  pub name : List ℕ
  pub file : List ℕ
  pub pieces : List (List ℕ)

-- The content was put together under the temporary name, and then got its own.
abbrev pub store_calls : Option (List ℕ) → List ℕ → Store → List Call
store_calls mark directory s =
    copy_calls s.file (temporary_name mark directory s.text) s.pieces ++ Rename (temporary_name mark directory s.text) s.name (Ok tt) ∷ []

-- a call of a store that didn't come to its end
abbrev pub IsStoreCall : Option (List ℕ) → List ℕ → List ℕ → List ℕ → Call → Type 0
IsStoreCall mark directory text file (Rename from to (Ok done)) = ⊥
IsStoreCall mark directory text file (Rename from to (Err e)) = (from ≡ temporary_name mark directory text) × IsContentName directory text to
IsStoreCall mark directory text file call = IsCopyCall (is_some mark) file (temporary_name mark directory text) call

-- what a store added to the log
abbrev pub StoreTraces : Option (List ℕ) → List ℕ → List ℕ → List ℕ → Outcome → List Call → Type 0
StoreTraces mark directory text file Done calls =
    (name : List ℕ) × IsContentName directory text name × ((pieces : List (List ℕ))
    × (calls ≡ store_calls mark directory (record { text = text; name = name; file = file; pieces = pieces })))
StoreTraces mark directory text file outcome calls = Each (IsStoreCall mark directory text file) calls

-- ---- the other calls

-- the call looks for the content or reads it, or makes the file or adds to it
abbrev pub IsRetrieveCall : List ℕ → List ℕ → List ℕ → Call → Type 0
IsRetrieveCall directory text file (Size name answer) = IsContentName directory text name
IsRetrieveCall directory text file (ReadAt name from answer) = IsContentName directory text name
IsRetrieveCall directory text file (Create name answer) = name ≡ file
IsRetrieveCall directory text file (Append name piece answer) = name ≡ file
IsRetrieveCall directory text file (Cut name size answer) = ⊥
IsRetrieveCall directory text file (Rename from to answer) = ⊥
IsRetrieveCall directory text file (Remove name answer) = ⊥

-- the call looks for the content
abbrev pub IsCheckCall : List ℕ → List ℕ → Call → Type 0
IsCheckCall directory text (Size name answer) = IsContentName directory text name
IsCheckCall directory text call = ⊥

-- the call removes the content
abbrev pub IsRemoveCall : List ℕ → List ℕ → Call → Type 0
IsRemoveCall directory text (Remove name answer) = IsContentName directory text name
IsRemoveCall directory text call = ⊥
