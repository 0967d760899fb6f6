-- What each call does to the files of a desk that tells them.
use Rattle.std.specs.Prelude.{ℕ, ◌≡◌, ◌≢◌, ◌≤◌, ⊤, if◌then◌else◌, bytes_eq, List, [], ◌∷◌, ◌++◌, take, drop, length, slice_get, Option, Some, None, option_map, IfSome, Result, Ok, Err}
use Rattle.ann_outside.specs.declared.file_desk.DeskError.{DeskError}
use Rattle.ann_outside.specs.declared.file_desk.DeskError.TheVariants.{Failed, Missing, NoMemory}

-- names and bytes; where a name stands twice, its first file counts
abbrev pub Files : Type 0
Files = List (List ℕ × List ℕ)

-- the bytes of the file of that name, if there is one
abbrev pub content : List ℕ → Files → Option (List ℕ)
content name [] = None
content name (file ∷ files) = if bytes_eq file.0 name then Some file.1 else content name files

-- the file at that place has that name
pub record IsAt (files : Files) (at : ℕ) (name : List ℕ) : Type 0 where
  pub file : List ℕ × List ℕ
  pub at_place : slice_get files at ≡ Some file
  pub name_is : file.0 ≡ name

-- what is told changes by that relation, and what isn't told stays untold
abbrev pub WhereTold : Option Files → Option Files → (Files → Files → Type 0) → Type 0
WhereTold None None P = ⊤
WhereTold None (Some new) P = ⊥
WhereTold (Some old) None P = ⊥
WhereTold (Some old) (Some new) P = P old new

-- every file but the named ones is as before
abbrev pub OthersStay : (List ℕ → Type 0) → Files → Files → Type 0
OthersStay IsNamed old new = (other : List ℕ) → (IsNamed other → ⊥) → content other new ≡ content other old

-- every file is as before
abbrev pub AllStay : Files → Files → Type 0
AllStay old new = (other : List ℕ) → content other new ≡ content other old

-- where there is such a file, it is at least that long
abbrev pub CanCut : List ℕ → ℕ → Files → Type 0
CanCut name size files = IfSome (content name files) (λ bytes. size ≤ length bytes)

-- The file has this length.
abbrev pub SizeIs : List ℕ → Files → Result ℕ DeskError → Type 0
SizeIs name files (Ok n) = content name files ≢ None × ((bytes : List ℕ) → content name files ≡ Some bytes → n ≡ length bytes)
SizeIs name files (Err Missing) = content name files ≡ None
SizeIs name files (Err Failed) = ⊤
SizeIs name files (Err NoMemory) = ⊤

-- These bytes stand in the file from a place on. None are the end of the file.
abbrev pub ReadIs : List ℕ → ℕ → List ℕ → Files → Result ℕ DeskError → Type 0
ReadIs name from buffer files (Ok n) =
    content name files ≢ None
    × ((bytes : List ℕ) → content name files ≡ Some bytes
    → (take n buffer ≡ take n (drop from bytes)) × (n ≡ 0 → length bytes ≤ from))
ReadIs name from buffer files (Err Missing) = content name files ≡ None
ReadIs name from buffer files (Err Failed) = ⊤
ReadIs name from buffer files (Err NoMemory) = ⊤

-- The file is there and empty.
abbrev pub CreateDoes : List ℕ → Result (Unit {0}) DeskError → Files → Files → Type 0
CreateDoes name (Ok done) old new = (content name new ≡ Some []) × OthersStay (λ other. other ≡ name) old new
CreateDoes name (Err Failed) old new = OthersStay (λ other. other ≡ name) old new
CreateDoes name (Err Missing) old new = ⊥
CreateDoes name (Err NoMemory) old new = AllStay old new

-- The file is there and empty, and there was none of its name. Where it wasn't made, every file is as before.
abbrev pub CreateNewDoes : List ℕ → Result (Unit {0}) DeskError → Files → Files → Type 0
CreateNewDoes name (Ok done) old new = (content name old ≡ None) × CreateDoes name (Ok done) old new
CreateNewDoes name (Err Failed) old new = AllStay old new
CreateNewDoes name (Err Missing) old new = ⊥
CreateNewDoes name (Err NoMemory) old new = AllStay old new

-- The file is there, or is missing.
abbrev pub SyncIs : List ℕ → Files → Result (Unit {0}) DeskError → Type 0
SyncIs name files (Ok done) = content name files ≢ None
SyncIs name files (Err Missing) = content name files ≡ None
SyncIs name files (Err Failed) = ⊤
SyncIs name files (Err NoMemory) = ⊤

-- The piece stands at the file's end; after a fault a prefix of it does.
abbrev pub AppendDoes : List ℕ → List ℕ → Result (Unit {0}) DeskError → Files → Files → Type 0
AppendDoes name piece (Ok done) old new =
    content name old ≢ None × (content name new ≡ option_map (λ bytes. bytes ++ piece) (content name old)) × OthersStay (λ other. other ≡ name) old new
AppendDoes name piece (Err Failed) old new =
    ((k : ℕ) × (content name new ≡ option_map (λ bytes. bytes ++ take k piece) (content name old))) × OthersStay (λ other. other ≡ name) old new
AppendDoes name piece (Err Missing) old new = (content name old ≡ None) × AllStay old new
AppendDoes name piece (Err NoMemory) old new = AllStay old new

-- The file is cut to a size.
abbrev pub CutDoes : List ℕ → ℕ → Result (Unit {0}) DeskError → Files → Files → Type 0
CutDoes name size (Ok done) old new =
    content name old ≢ None × (content name new ≡ option_map (λ bytes. take size bytes) (content name old)) × OthersStay (λ other. other ≡ name) old new
CutDoes name size (Err Failed) old new = OthersStay (λ other. other ≡ name) old new
CutDoes name size (Err Missing) old new = (content name old ≡ None) × AllStay old new
CutDoes name size (Err NoMemory) old new = AllStay old new

-- The file stands under the other name alone.
abbrev pub RenameDoes : List ℕ → List ℕ → Result (Unit {0}) DeskError → Files → Files → Type 0
RenameDoes from to (Ok done) old new =
    content from old ≢ None × (content to new ≡ content from old) × (from ≢ to → content from new ≡ None)
    × ((other : List ℕ) → other ≢ from → other ≢ to → content other new ≡ content other old)
RenameDoes from to (Err Failed) old new = AllStay old new
RenameDoes from to (Err Missing) old new = (content from old ≡ None) × AllStay old new
RenameDoes from to (Err NoMemory) old new = AllStay old new

-- The file is gone.
abbrev pub RemoveDoes : List ℕ → Result (Unit {0}) DeskError → Files → Files → Type 0
RemoveDoes name (Ok done) old new =
    content name old ≢ None × (content name new ≡ None) × OthersStay (λ other. other ≡ name) old new
RemoveDoes name (Err Failed) old new = AllStay old new
RemoveDoes name (Err Missing) old new = (content name old ≡ None) × AllStay old new
RemoveDoes name (Err NoMemory) old new = AllStay old new
