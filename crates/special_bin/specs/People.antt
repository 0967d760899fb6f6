-- What the program's own file says on standard error, beside what the command itself says there.
use Rattle.std.specs.Prelude.{ℕ, ◌≡◌, ◌==◌, ◌||◌, Bool, List, [], ◌∷◌, ◌++◌, Option, Some, None, is_some, map, take, codes, if◌then◌else◌}
use Rattle.std.specs.Io.KnownBytes.{Appends}
use Rattle.ann_outside.specs.Told.{SinkTold}
use Rattle.cli_words.specs.declared.command.Command.{Command}
use Rattle.cli_words.specs.declared.command.Command.TheVariants.{Run}

-- a line that begins so: a line end in the words is a space
abbrev pub shown_byte : ℕ → ℕ
shown_byte byte = if byte == 10 then 32 else byte

abbrev pub line_of : List ℕ → List ℕ → List ℕ
line_of start words = start ++ (map shown_byte words ++ 10 ∷ [])

-- the second line, which says what is wrong
abbrev pub hint_text : Option (List ℕ) → List ℕ
hint_text None = []
hint_text (Some words) = line_of (codes "special: ") words

-- the notices
abbrev pub notes_text : List (List ℕ) → List ℕ
notes_text [] = []
notes_text (note ∷ notes) = line_of (codes "special: note: ") note ++ notes_text notes

abbrev pub people_text : Option (List ℕ) → List (List ℕ) → List ℕ
people_text hint notes = hint_text hint ++ notes_text notes

-- the statuses with a second line
abbrev pub has_hint : ℕ → Bool
has_hint status = (status == 2) || (status == 3) || (status == 4) || (status == 6) || (status == 7)

-- what was written is a second line, where the status has one, and notices; or the first bytes of them, which may be none
pub record AreForPeople (status : ℕ) (before after : SinkTold) : Type 0 where
  pub hint : Option (List ℕ)
  pub notes : List (List ℕ)
  pub hinted : is_some hint ≡ has_hint status
  pub size : ℕ
  pub written : Appends before.taken after.taken (take size (people_text hint notes))

-- the folder for files in transit, where a run is asked for
abbrev pub work_in : Option Command → Option (List ℕ)
work_in (Some (Run words)) = Some words.work
work_in _ = None
