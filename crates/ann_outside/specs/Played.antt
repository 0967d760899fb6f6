-- What the calls of a log, one after the other, may have made of a desk's files.
use Rattle.std.specs.Prelude.{ℕ, ◌≡◌, ◌≢◌, ◌≤◌, ⊤, List, [], ◌∷◌, take, drop, length, Option, Some, None, Result, Ok, Err}
use Rattle.ann_outside.specs.Calls.{Log}
use Rattle.ann_outside.specs.Files.{Files, content, WhereTold, AllStay, SizeIs, CreateDoes, AppendDoes, CutDoes, RenameDoes, RemoveDoes}
use Rattle.ann_outside.specs.declared.file_desk.DeskError.{DeskError}
use Rattle.ann_outside.specs.declared.file_desk.DeskError.TheVariants.{Failed, Missing, NoMemory}
use Rattle.ann_outside.specs.declared.file_desk.Call.{Call}
use Rattle.ann_outside.specs.declared.file_desk.Call.TheVariants.{Size, ReadAt, Create, Append, Cut, Rename, Remove}

-- The bytes that were read stand in the file from that place on. None are the end of the file.
abbrev pub BytesAre : List ℕ → ℕ → Files → Result (List ℕ) DeskError → Type 0
BytesAre name from files (Ok read) =
    content name files ≢ None
    × ((bytes : List ℕ) → content name files ≡ Some bytes
    → (read ≡ take (length read) (drop from bytes)) × (read ≡ [] → length bytes ≤ from))
BytesAre name from files (Err Missing) = content name files ≡ None
BytesAre name from files (Err Failed) = ⊤
BytesAre name from files (Err NoMemory) = ⊤

-- what the call found is so in the old files, and it may have made the new ones of them
abbrev pub Does : Call → Files → Files → Type 0
Does (Size name answer) old new = SizeIs name old answer × AllStay old new
Does (ReadAt name from answer) old new = BytesAre name from old answer × AllStay old new
Does (Create name answer) old new = CreateDoes name answer old new
Does (Append name piece answer) old new = AppendDoes name piece answer old new
Does (Cut name size answer) old new = CutDoes name size answer old new
Does (Rename from to answer) old new = RenameDoes from to answer old new
Does (Remove name answer) old new = RemoveDoes name answer old new

-- so may these calls, one after the other
abbrev pub Played : List Call → Files → Files → Type 0
Played [] old new = AllStay old new
Played (call ∷ calls) old new = (mid : Files) × Does call old mid × Played calls mid new

-- where calls and files are told, these are what the calls made of those that were there before them
abbrev pub ArePlayed : Option Log → Option Files → Type 0
ArePlayed None files = ⊤
ArePlayed (Some log) files = WhereTold log.origin files (Played log.calls)
