-- What stands first in the bytes that a link holds.
use Rattle.std.specs.Prelude.{ℕ, ◌≡◌, ◌<◌, ◌≤◌, not, List, length, IsTrue}
use Rattle.journal_model.specs.Limits.{longest_line}
use Rattle.wire_line.specs.HeldBytes.{has_line, first_line}
use Rattle.child_link.specs.declared.ear.Held.{Held}
use Rattle.child_link.specs.declared.ear.Held.TheVariants.{Line, Long, More, NoRoom}

abbrev pub IsFirst : List ℕ → Held → Type 0
IsFirst held (Line line) = IsTrue (has_line longest_line held) × (line ≡ first_line held)
IsFirst held Long = IsTrue (not (has_line longest_line held)) × (longest_line < length held)
IsFirst held More = IsTrue (not (has_line longest_line held)) × (length held ≤ longest_line)
IsFirst held NoRoom = IsTrue (has_line longest_line held)
