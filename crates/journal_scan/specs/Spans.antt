-- The places between which a job is open.
use Rattle.std.specs.Prelude.{ℕ, ◌≡◌, ◌≤◌, ◌==◌, ◌&&◌, not, nat_lt, nat_le, if◌then◌else◌, List, Option, Some, None, length, take}
use Rattle.journal_model.specs.declared.entry.What.{What}
use Rattle.journal_model.specs.declared.entry.What.TheVariants.{Got}
use Rattle.journal_model.specs.declared.entry.Entry.{Entry}
use Rattle.journal_model.specs.Journal.{addressed, is_open}
use Rattle.journal_model.specs.Parts.{ends_at, is_for}
use Rattle.journal_scan.specs.declared.spans.Span.{Span}

-- A line that the child says is for the job, which is open, exactly where it stands after the one place and not after the other;
-- and its text is the whole line.
pub record IsSpan (entries : List Entry) (c j : ℕ) (s : Span) : Type 0 where
  pub lines : (n : ℕ) (line : List ℕ) → n ≤ length entries
      → (is_for j (addressed (take n entries) c line).0 && is_open (take n entries) c j) ≡ (nat_lt s.asked n && nat_le n s.settled)
  pub texts : (n : ℕ) (line : List ℕ) → (addressed (take n entries) c line).1 ≡ line

-- the entry's line, where c says it between the places and it doesn't end c
abbrev pub line_within : Span → ℕ → ℕ → What → List Entry → Option (List ℕ)
line_within s c at (Got child line) rest = if child == c && nat_lt s.asked at && nat_le at s.settled && not (ends_at c at rest) then Some line else None
line_within s c at _ rest = None
