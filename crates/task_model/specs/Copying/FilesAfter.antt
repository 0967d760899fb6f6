-- What a copy leaves in the files of a desk that tells them.
use Rattle.std.specs.Prelude.{ℕ, ◌≡◌, ◌≢◌, ◌≤◌, ◌-◌, min, List, [], ◌++◌, length, take, drop, unwrap_or, option_map, Some, Result, Ok, Err}
use Rattle.ann_key.specs.declared.bytes.NoMemory.{NoMemory}
use Rattle.ann_outside.specs.Files.{Files, content, AllStay, OthersStay}
use Rattle.ann_outside.specs.declared.file_desk.DeskError.{DeskError}
use Rattle.task_model.specs.declared.copying.copied.Copied.{Copied}
use Rattle.task_model.specs.declared.copying.copied.Copied.TheVariants.{Done, Fault, Missing}

-- what the file holds; nothing where there is none
abbrev pub bytes_in : List ℕ → Files → List ℕ
bytes_in name files = unwrap_or (content name files) []

-- The file `to` got so many bytes of `from`, from a place on, after what it held. Every other file is as before.
pub record FileGrows (from to : List ℕ) (at count : ℕ) (old new : Files) : Type 0 where
  pub grew : content to new ≡ option_map (λ bytes. bytes ++ take count (drop at (bytes_in from old))) (content to old)
  pub others : OthersStay (λ other. other ≡ to) old new

-- ---- one piece

-- It came, and was there; none comes at the file's end alone. Where a call was refused, a front of it came, no longer than there was room.
abbrev pub PieceGrows : List ℕ → List ℕ → ℕ → ℕ → Result ℕ DeskError → Files → Files → Type 0
PieceGrows from to at room (Ok n) old new =
    FileGrows from to at n old new × (n ≤ length (bytes_in from old) - at) × (n ≡ 0 → length (bytes_in from old) ≤ at)
PieceGrows from to at room (Err e) old new = (count : ℕ) × (count ≤ room) × FileGrows from to at count old new

-- ---- many

-- so many bytes came so far, all of which are there
pub record GrownSoFar (from to : List ℕ) (at count : ℕ) (old now : Files) : Type 0 where
  pub got : FileGrows from to at count old now
  pub there : count ≤ length (bytes_in from old) - at

-- what is done came whole: all that was wanted, or all that is there
abbrev pub IsWholeCopy : Result Copied NoMemory → ℕ → ℕ → ℕ → Type 0
IsWholeCopy (Ok (Done n)) count wanted there = (n ≡ count) × (n ≡ min wanted there)
IsWholeCopy (Ok Fault) count wanted there = Unit {0}
IsWholeCopy (Ok Missing) count wanted there = Unit {0}
IsWholeCopy (Err e) count wanted there = Unit {0}

-- Whatever the answer, the file got a front of the bytes that were wanted of the other, from a place on.
pub record LeavesFront (from to : List ℕ) (at wanted : ℕ) (result : Result Copied NoMemory) (old new : Files) : Type 0 where
  pub count : ℕ
  pub got : FileGrows from to at count old new
  pub most : count ≤ wanted
  pub all : IsWholeCopy result count wanted (length (bytes_in from old) - at)

-- ---- a file that is made for it

-- a file that was made, and so is empty, got a front of the range; where both names are one, nothing changed
pub record LeavesMade (file name : List ℕ) (from to : ℕ) (result : Result Copied NoMemory) (old new : Files) : Type 0 where
  pub apart : file ≢ name → LeavesFront file name from (to - from) result old new
  pub itself : file ≡ name → AllStay old new

-- The file was made, and holds a front of the range; nothing, where both names are one. Every other file is as before.
pub record HoldsRange (file name : List ℕ) (from to : ℕ) (result : Result Copied NoMemory) (old new : Files) : Type 0 where
  pub count : ℕ
  pub holds : content name new ≡ Some (take count (drop from (bytes_in file old)))
  pub most : count ≤ to - from
  pub all : file ≢ name → IsWholeCopy result count (to - from) (length (bytes_in file old) - from)
  pub itself : file ≡ name → count ≡ 0
  pub others : OthersStay (λ other. other ≡ name) old new

-- The file wasn't made. What has its name after a fault isn't known; every other file is as before.
abbrev pub IsUnmade : List ℕ → Result Copied NoMemory → Files → Files → Type 0
IsUnmade name (Ok (Done n)) old new = ⊥
IsUnmade name (Ok Fault) old new = OthersStay (λ other. other ≡ name) old new
IsUnmade name (Ok Missing) old new = ⊥
IsUnmade name (Err e) old new = AllStay old new
