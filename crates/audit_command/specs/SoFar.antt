-- What a text that may be cut off says so far.
use Rattle.std.specs.Prelude.{ℕ, ◌≡◌, ◌⊎◌, true, false, List, [], ◌∷◌, ◌++◌, length, Option, Some, None, Result, Ok, Err}
use Rattle.annex_model.specs.Lines.{Cut as IsCut, has_newline}
use Rattle.journal_look.specs.declared.journal.Journal.{Journal}
use Rattle.journal_model.specs.declared.entry.Entry.{Entry}
use Rattle.journal_model.specs.declared.opening.Opening.{Opening}
use Rattle.journal_text.specs.Lines.JournalTexts.{Told, end_line}
use Rattle.journal_reader.specs.RunTexts.{Begins}
use Rattle.journal_reader.specs.Runs.{IsOpeningOf}
use Rattle.audit_command.specs.Inputs.{passes, lines_within, IsTextOf, IsRefused}
use Rattle.audit_command.specs.declared.limits.Limits.{Limits}
use Rattle.audit_command.specs.declared.error.AuditError.{AuditError}
use Rattle.audit_command.specs.declared.error.AuditError.TheVariants.{Entry as BadEntry, NoMemory}

-- the lines are those of the bytes that have ended; what follows the last of them, which may be cut, doesn't count
abbrev pub HaveEnded : List ℕ → List (List ℕ) → Type 0
HaveEnded bytes lines = (rest : List ℕ) × IsCut bytes lines rest × (has_newline rest ≡ false)

-- they are the text of a run with this opening and this journal, or all of it but its last line
abbrev pub IsTextSoFar : Opening → List Entry → List (List ℕ) → Type 0
IsTextSoFar opening journal lines = IsTextOf opening journal lines ⊎ IsTextOf opening journal (lines ++ end_line (length journal) ∷ [])

-- they begin a text, and end before its line `begin`
pub record IsUnbegun (lines : List (List ℕ)) : Type 0 where
  pub begins : Begins lines
  pub none : (opening : Opening) (journal : List Entry) → IsTextSoFar opening journal lines → ⊥

-- the lines end before the line `begin` of such a text, or say its opening and a first part of its journal
abbrev pub IsFirstPart : Told → List (List ℕ) → Type 0
IsFirstPart t lines =
    IsUnbegun lines
    ⊎ ((past rest : List Entry) × (t.entries ≡ past ++ rest) × ((opening : Opening) → IsOpeningOf opening t → IsTextSoFar opening past lines))

-- the line of that number is refused: one of those that have ended, or the one in which a limit is passed
abbrev pub IsRefusedSoFar : Limits → List ℕ → ℕ → Type 0
IsRefusedSoFar limits bytes number =
    ((lines : List (List ℕ)) × HaveEnded bytes lines × IsRefused lines false number)
    ⊎ ((passes limits bytes ≡ true) × IsRefused (lines_within limits bytes) true number)

-- what lines that have ended come to
abbrev pub LinesCome : List (List ℕ) → Result (Option (Opening × Journal)) AuditError → Type 0
LinesCome lines (Ok (Some (opening, journal))) = IsTextSoFar opening journal.entries lines
LinesCome lines (Ok None) = IsUnbegun lines
LinesCome lines (Err (BadEntry number)) = IsRefused lines false number
LinesCome lines (Err NoMemory) = Unit {0}
LinesCome lines (Err fault) = ⊥

-- what the bytes of a text come to so far
abbrev pub ComesSoFar : Limits → List ℕ → Result (Option (Opening × Journal)) AuditError → Type 0
ComesSoFar limits bytes (Err (BadEntry number)) = IsRefusedSoFar limits bytes number
ComesSoFar limits bytes result = (lines : List (List ℕ)) × HaveEnded bytes lines × LinesCome lines result
