-- What a copy of a file does to the files of a desk.
use Rattle.std.specs.Prelude.{ℕ, ◌≡◌, ◌≢◌, ◌≤◌, ⊤, Bool, false, List, ◌++◌, take, drop, length, option_map, Option, Some, None, Result, Ok, Err, OnOk}
use Rattle.ann_outside.specs.Causes.{Rose}
use Rattle.ann_outside.specs.DeskCauses.{Counts}
use Rattle.ann_outside.specs.Files.{Files, content, OthersStay}
use Rattle.ann_outside.specs.declared.file_desk.DeskError.{DeskError}
use Rattle.ann_outside.specs.declared.file_desk.DeskError.TheVariants.{Failed, Missing, NoMemory}

-- Bytes of one file, from a place on, were put after those of the other; none are the file's end.
abbrev pub PieceDoes : List ℕ → List ℕ → ℕ → Result ℕ DeskError → Files → Files → Type 0
PieceDoes from to at (Ok n) old new =
    (content from old ≢ None)
    × ((bytes : List ℕ) → content from old ≡ Some bytes
    → (content to new ≡ option_map (λ held. held ++ take n (drop at bytes)) (content to old)) × (n ≡ 0 → length bytes ≤ at))
PieceDoes from to at (Err Missing) old new = content to old ≢ None → content from old ≡ None
PieceDoes from to at (Err Failed) old new = ⊤
PieceDoes from to at (Err NoMemory) old new = ⊤

-- so far the first bytes were copied
pub record Copying (from to : List ℕ) (at : ℕ) (old now : Files) : Type 0 where
  pub others : OthersStay (λ other. other ≡ to) old now
  pub there : content to now ≢ None
  pub front : from ≢ to → (bytes : List ℕ) → content from old ≡ Some bytes → content to now ≡ Some (take at bytes)

-- The one file has the content of the other.
abbrev pub CopyDoes : List ℕ → List ℕ → Result (Unit {0}) DeskError → Files → Files → Type 0
CopyDoes from to (Ok done) old new = (content from old ≢ None) × (content to new ≡ content from old)
CopyDoes from to (Err Missing) old new = content from old ≡ None
CopyDoes from to (Err Failed) old new = ⊤
CopyDoes from to (Err NoMemory) old new = ⊤

-- The other was made in this copy, so no file of its name was there. If it wasn't, one that was there is as before.
abbrev pub Spares : List ℕ → Result (Unit {0}) DeskError → Files → Files → Type 0
Spares name (Ok done) old new = content name old ≡ None
Spares name (Err e) old new = content name old ≢ None → content name new ≡ content name old

-- The counts haven't fallen, and Failed and Missing come only where theirs rose. Done leaves both as they were, and any answer but
-- Failed that of the faults, where a copy that failed isn't cleared away.
pub record HasCopyCauses (clears : Bool) (old new : Counts) (result : Result (Unit {0}) DeskError) : Type 0 where
  pub faults_later : old.faults ≤ new.faults
  pub missing_later : old.missing ≤ new.missing
  pub failed : result ≡ Err Failed → Rose old.faults new.faults
  pub missing : result ≡ Err Missing → Rose old.missing new.missing
  pub done : OnOk result (new ≡ old)
  pub calm : clears ≡ false → result ≢ Err Failed → new.faults ≡ old.faults
