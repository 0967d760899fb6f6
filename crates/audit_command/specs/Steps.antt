-- What the parts of an audit do.
use Rattle.std.specs.Prelude.{ℕ, ◌≡◌, ◌<◌, Bool, true, false, List, ◌++◌, length, Option, Some, None, Result, Ok, Err}
use Rattle.std.specs.Io.KnownBytes.{IsAtEnd}
use Rattle.journal_look.specs.declared.journal.Journal.{Journal}
use Rattle.journal_model.specs.declared.opening.Opening.{Opening}
use Rattle.cli_words.specs.TaskInput.InputLines.{lines_of}
use Rattle.audit_command.specs.Inputs.{passes, lines_within, IsTextOf, IsRefused, IsUnfinished}
use Rattle.audit_command.specs.Intakes.{Took}
use Rattle.audit_command.specs.declared.intake.Intake.{Intake}
use Rattle.audit_command.specs.declared.limits.Limits.{Limits}
use Rattle.audit_command.specs.declared.error.AuditError.{AuditError}
use Rattle.audit_command.specs.declared.error.AuditError.TheVariants.{Entry, Cut, Failed, NoMemory}

-- ---- lines

-- one of the lines is refused, or the one after them, in which a limit is passed
abbrev pub IsRefusedBehind : List (List ℕ) → Option ℕ → Type 0
IsRefusedBehind lines None = ⊥
IsRefusedBehind lines (Some number) = IsRefused lines true number

-- the lines are a text of this opening and journal; or one of them is refused, or the end is missing
abbrev pub Ends : List (List ℕ) → Result (Opening × Journal) AuditError → Type 0
Ends lines (Ok (opening, journal)) = IsTextOf opening journal.entries lines
Ends lines (Err (Entry number)) = IsRefused lines false number
Ends lines (Err (Cut number)) = IsUnfinished lines number
Ends lines (Err Failed) = ⊥
Ends lines (Err NoMemory) = Unit {0}

-- ---- bytes

-- so it is of an input within its limits
abbrev pub Comes : Limits → List ℕ → Result (Opening × Journal) AuditError → Type 0
Comes limits bytes (Ok (opening, journal)) = (passes limits bytes ≡ false) × IsTextOf opening journal.entries (lines_of true bytes)
Comes limits bytes (Err (Entry number)) = IsRefused (lines_within limits bytes) (passes limits bytes) number
Comes limits bytes (Err (Cut number)) = (passes limits bytes ≡ false) × IsUnfinished (lines_of true bytes) number
Comes limits bytes (Err Failed) = ⊥
Comes limits bytes (Err NoMemory) = Unit {0}

-- ---- reads

-- the piece, which isn't empty, was taken; or the source is at its end
abbrev pub IsStep : Limits → Intake → Intake → List ℕ → Option (List ℕ) → Result Bool AuditError → Type 0
IsStep limits old new piece left (Ok true) = (0 < length piece) × ((bytes : List ℕ) → Took limits bytes old → Took limits (bytes ++ piece) new)
IsStep limits old new piece left (Ok false) = (new ≡ old) × (length piece ≡ 0) × IsAtEnd left
IsStep limits old new piece left (Err Failed) = Unit {0}
IsStep limits old new piece left (Err NoMemory) = Unit {0}
IsStep limits old new piece left (Err fault) = ⊥

-- all of it was taken
abbrev pub Holds : Limits → List ℕ → Option (List ℕ) → Result Intake AuditError → Type 0
Holds limits bytes left (Ok intake) = Took limits bytes intake × (intake.past ≡ false → IsAtEnd left)
Holds limits bytes left (Err Failed) = Unit {0}
Holds limits bytes left (Err NoMemory) = Unit {0}
Holds limits bytes left (Err fault) = ⊥
