-- A sink to which whole lines alone go.
use Rattle.std.specs.Prelude.{ℕ, ◌==◌, Bool, true, if◌then◌else◌, List, [], Option, Some, None, IsTrue}
use Rattle.std.specs.List.{last_or}
use Rattle.std.specs.Io.KnownBytes.{Appends}

-- what contracts see of one: the sink, the same as it was at first, and whether it takes nothing more
pub record LineSinkValue (W : Type 0) : Type 0 where
  pub sink : W
  pub begun : W
  pub is_over : Bool

abbrev pub is_end : Option ℕ → Bool
is_end None = true
is_end (Some byte) = byte == 10

-- the last byte ends a line, or there is none
abbrev pub ends_line : List ℕ → Bool
ends_line bytes = is_end (last_or None bytes)

-- what a flush leaves: nothing, or all where the last line has no end yet
abbrev pub kept_back : List ℕ → List ℕ
kept_back held = if ends_line held then [] else held

-- from the one place to the other whole lines were taken
abbrev pub TookLines : Option (List ℕ) → Option (List ℕ) → Type 0
TookLines begun taken = (bytes : List ℕ) × Appends begun taken bytes × IsTrue (ends_line bytes)
