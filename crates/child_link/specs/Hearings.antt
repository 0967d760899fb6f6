-- What each step of an ear comes to.
use Rattle.std.specs.Prelude.{ℕ, ◌≡◌, ◌<◌, ◌≤◌, ◌⊎◌, ◌==◌, ◌&&◌, not, Bool, true, false, List, length, IsTrue}
use Rattle.wire_line.specs.HeldBytes.{has_line}
use Rattle.journal_model.specs.declared.verdict.Why.{Why}
use Rattle.journal_model.specs.declared.verdict.Why.TheVariants.{LongLine}
use Rattle.journal_model.specs.declared.entry.What.{What}
use Rattle.journal_model.specs.declared.entry.What.TheVariants.{Got, End, Verdict as Settled}
use Rattle.journal_model.specs.declared.entry.Entry.{Entry}
use Rattle.journal_model.specs.declared.opening.Opening.{Opening}
use Rattle.journal_model.specs.Journal.{is_ended}
use Rattle.journal_model.specs.Limits.{longest_line}
use Rattle.journal_model.specs.Halves.{EarValue}
use Rattle.journal_model.specs.Shares.{is_closed}
use Rattle.child_link.specs.declared.ear.Heard.{Heard}
use Rattle.child_link.specs.declared.ear.Heard.TheVariants.{Fed, Read, Over}
use Rattle.child_link.specs.declared.ear.Turn.{Turn}
use Rattle.child_link.specs.declared.ear.Turn.TheVariants.{Again, Rest, Over as IsOver}
use Rattle.child_link.specs.Doors.{Appended, Ends}
use Rattle.child_link.specs.Fills.{GrowsBy}

-- more is held than a line may have, and no line's end stands among its first bytes
abbrev pub IsLong : List ℕ → Type 0
IsLong held = IsTrue (not (has_line longest_line held)) × (longest_line < length held)

-- no line stands first yet, and there may be more of it
abbrev pub IsShort : List ℕ → Type 0
IsShort held = IsTrue (not (has_line longest_line held)) × (length held ≤ longest_line)

abbrev pub is_long_line : Why → Bool
is_long_line LongLine = true
is_long_line why = false

-- the end of a child for a line that is too long, and what it makes due
abbrev pub by_long : ℕ → What → Bool
by_long c (End child why) = child == c && is_long_line why
by_long c (Settled child job verdict) = child == c
by_long c _ = false

-- a line that stood first was taken away, and nothing else was done
pub record Shorter (old new : EarValue) : Type 0 where
  pub line : IsTrue (has_line longest_line old.held)
  pub same : new ≡ record old { held = new.held }
  pub fewer : length new.held < length old.held

-- the line was fed, or it wasn't, and the child ended
abbrev pub IsFeeding : Opening → ℕ → Bool → List Entry → List Entry → EarValue → EarValue → Bool → Type 0
IsFeeding o number alone old new ear ear' true =
    ((line : List ℕ) × Appended o number alone old new (Got ear.child line) (λ past. is_ended past ear.child ≡ false)) × Shorter ear ear'
IsFeeding o number alone old new ear ear' false = (ear' ≡ ear) × ((why : Why) × Ends o number alone old new ear.child why × (is_closed why ≡ false))

-- one line was fed; or none stood first, and at least a byte was read, at most as many as one read gives; or the child ended
abbrev pub IsHearing : Opening → ℕ → Bool → List Entry → List Entry → EarValue → EarValue → Heard → Type 0
IsHearing o number alone old new ear ear' Fed =
    ((line : List ℕ) × Appended o number alone old new (Got ear.child line) (λ past. is_ended past ear.child ≡ false)) × Shorter ear ear'
IsHearing o number alone old new ear ear' Read = (new ≡ old) × (IsShort ear.held × GrowsBy 4096 ear.held ear'.held)
IsHearing o number alone old new ear ear' Over =
    (why : Why) × Ends o number alone old new ear.child why × (is_closed why ≡ false) × (IsLong ear.held → why ≡ LongLine)

-- no line is held whole, or the child has ended
abbrev pub HasNoLine : EarValue → List Entry → Type 0
HasNoLine ear journal = IsTrue (not (has_line longest_line ear.held)) ⊎ (is_ended journal ear.child ≡ true)

abbrev pub IsNextFed : EarValue → EarValue → List Entry → Bool → Type 0
IsNextFed old new journal true = Shorter old new
IsNextFed old new journal false = (new ≡ old) × HasNoLine old journal

-- lines alone were taken away, and none is left, or the child has ended
pub record IsAllFed (old new : EarValue) (journal : List Entry) : Type 0 where
  pub same : new ≡ record old { held = new.held }
  pub fewer : length new.held ≤ length old.held
  pub none : HasNoLine new journal

-- Lines that were held whole were fed, all of them; or none was, and one read gave at least a byte. A rest changes nothing.
abbrev pub IsTurned : EarValue → EarValue → List Entry → Turn → Type 0
IsTurned old new journal Again =
    (IsTrue (has_line longest_line old.held) × (length new.held < length old.held) × IsAllFed old new journal)
    ⊎ (IsShort old.held × GrowsBy 4096 old.held new.held)
IsTurned old new journal Rest = new ≡ old
IsTurned old new journal IsOver = Unit {0}
