-- Where the content of a key stands in a directory.
use Rattle.std.specs.Prelude.{ℕ, ◌≡◌, ◌≢◌, ◌==◌, ⊤, false, codes, List, [], ◌∷◌, ◌++◌, Option, Some, None}
use Rattle.std.specs.List.{list_any}
use Rattle.ann_key.specs.Keys.{Parts, IsKey, key_reading, without_chunk}
use Rattle.ann_key.specs.FileNames.{file_name_of}
use Rattle.ann_digest.specs.Directories.{lower_of}
use Rattle.ann_outside.specs.Files.{Files, content, WhereTold}

-- DIRECTORY/FOLDER/FILE
abbrev pub place_of : List ℕ → List ℕ → List ℕ → List ℕ
place_of directory folder file = directory ++ 47 ∷ (folder ++ 47 ∷ file)

-- the content of the key of that text stands in DIRECTORY/LOWER/FILENAME; LOWER goes by the key without its chunk fields
pub record IsContentName (directory text name : List ℕ) : Type 0 where
  pub parts : Parts
  pub read : key_reading text ≡ Some parts
  pub base : List ℕ
  pub base_is : IsKey base (without_chunk parts)
  pub whole : name ≡ place_of directory (lower_of base) (file_name_of text)

-- a mark has bytes, and neither a slash nor a dash among them
pub record IsMark (mark : List ℕ) : Type 0 where
  pub some : mark ≢ []
  pub no_slash : list_any (λ b. b == 47) mark ≡ false
  pub no_dash : list_any (λ b. b == 45) mark ≡ false

-- FILE, or MARK-FILE where the remote has a mark
abbrev pub marked : Option (List ℕ) → List ℕ → List ℕ
marked None file = file
marked (Some mark) file = mark ++ 45 ∷ file

-- where the content is put together before it gets its name
abbrev pub temporary_name : Option (List ℕ) → List ℕ → List ℕ → List ℕ
temporary_name mark directory text = place_of directory (codes "tmp") (marked mark (file_name_of text))

-- With a mark a file that stands where the content is put together is as before: it is neither written over nor removed.
abbrev pub LeavesInTransit : Option (List ℕ) → Option (List ℕ) → List ℕ → Option Files → Option Files → Type 0
LeavesInTransit None directory key old new = ⊤
LeavesInTransit (Some mark) None key old new = ⊤
LeavesInTransit (Some mark) (Some directory) key old new =
    WhereTold old new (λ before after.
    content (temporary_name (Some mark) directory key) before ≢ None
    → content (temporary_name (Some mark) directory key) after ≡ content (temporary_name (Some mark) directory key) before)

-- the file's name doesn't begin with the directory's name and a slash
abbrev pub IsOutside : List ℕ → List ℕ → Type 0
IsOutside directory file = (rest : List ℕ) → file ≢ directory ++ 47 ∷ rest

-- the files outside of the directory are as before
abbrev pub OutsideStays : List ℕ → Files → Files → Type 0
OutsideStays directory old new = (other : List ℕ) → IsOutside directory other → content other new ≡ content other old

-- the content of every key but this one is as before
abbrev pub OtherKeysStay : List ℕ → List ℕ → Files → Files → Type 0
OtherKeysStay directory key old new =
    (other name : List ℕ) → other ≢ key → IsContentName directory other name → content name new ≡ content name old

-- the content of every key is as before
abbrev pub KeysStay : List ℕ → Files → Files → Type 0
KeysStay directory old new = (text name : List ℕ) → IsContentName directory text name → content name new ≡ content name old
