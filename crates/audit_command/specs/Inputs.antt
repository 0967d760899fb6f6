-- What an input of `audit` comes to.
use Rattle.std.specs.Prelude.{ℕ, ◌≡◌, ◌+◌, ◌||◌, nat_lt, Bool, true, false, if◌then◌else◌, List, [], ◌∷◌, ◌++◌, length, take, Result, Ok, Err}
use Rattle.journal_model.specs.declared.entry.Entry.{Entry}
use Rattle.journal_model.specs.declared.opening.Opening.{Opening}
use Rattle.journal_text.specs.Lines.JournalTexts.{Told, told_lines}
use Rattle.journal_reader.specs.RunTexts.{IsTold, IsWhole, Begins}
use Rattle.journal_reader.specs.Runs.{IsOpeningOf}
use Rattle.journal_audit.specs.Audits.{IsAudit}
use Rattle.journal_audit.specs.declared.found.Audit.{Audit}
use Rattle.cli_words.specs.TaskInput.InputLines.{lines_of}
use Rattle.audit_command.specs.declared.limits.Limits.{Limits}
use Rattle.audit_command.specs.declared.error.AuditError.{AuditError}
use Rattle.audit_command.specs.declared.error.AuditError.TheVariants.{Entry as BadEntry, Cut}

-- ---- the limits

-- those of the input of `audit`
abbrev pub audit_limits : Limits
audit_limits = record { lines = 16000000; bytes = 4294967296 }

-- the input has more bytes than it may have
abbrev pub is_large : Limits → List ℕ → Bool
is_large limits bytes = nat_lt limits.bytes (length bytes)

-- it passes a limit: so it does where it has more lines too
abbrev pub passes : Limits → List ℕ → Bool
passes limits bytes = is_large limits bytes || nat_lt limits.lines (length (lines_of true bytes))

-- the lines of an input, the last of which may lack its end; of one that is large, those that end within the limit
abbrev pub lines_ended : Limits → List ℕ → List (List ℕ)
lines_ended limits bytes = if is_large limits bytes then lines_of false (take limits.bytes bytes) else lines_of true bytes

-- the lines before the one in which it passes a limit; all, where it passes none
abbrev pub lines_within : Limits → List ℕ → List (List ℕ)
lines_within limits bytes = take limits.lines (lines_ended limits bytes)

-- ---- the text

-- the lines are the text of a run with this opening and this journal
pub record IsTextOf (opening : Opening) (journal : List Entry) (lines : List (List ℕ)) : Type 0 where
  pub told : Told
  pub class : IsTold told
  pub whole : told_lines told ≡ lines
  pub opening_is : IsOpeningOf opening told
  pub journal_is : journal ≡ told.entries

-- after lines that begin a text stands one with which they don't any more; or none, but a limit is passed
abbrev pub Stops : List (List ℕ) → List (List ℕ) → Bool → Type 0
Stops before [] past = past ≡ true
Stops before (line ∷ more) past = Begins (before ++ line ∷ []) → ⊥

-- the line of that number, counted from 1, is the first that is refused
pub record IsRefused (lines : List (List ℕ)) (past : Bool) (number : ℕ) : Type 0 where
  pub before : List (List ℕ)
  pub rest : List (List ℕ)
  pub whole : lines ≡ before ++ rest
  pub begins : Begins before
  pub stops : Stops before rest past
  pub count : number ≡ length before + 1

-- so many lines begin a text, and are none
pub record IsUnfinished (lines : List (List ℕ)) (number : ℕ) : Type 0 where
  pub begins : Begins lines
  pub unfinished : IsWhole lines → ⊥
  pub count : number ≡ length lines

-- ---- what is found

-- the input passes no limit and is the text of a run, of whose journal this is found
pub record IsFound (limits : Limits) (bytes : List ℕ) (found : Audit) : Type 0 where
  pub opening : Opening
  pub journal : List Entry
  pub within : passes limits bytes ≡ false
  pub text : IsTextOf opening journal (lines_of true bytes)
  pub audit : IsAudit opening journal found

-- what an input comes to; nothing is said of it where a read failed or memory was wanting
abbrev pub AuditComesTo : Limits → List ℕ → Result Audit AuditError → Type 0
AuditComesTo limits bytes (Ok found) = IsFound limits bytes found
AuditComesTo limits bytes (Err (BadEntry line)) = IsRefused (lines_within limits bytes) (passes limits bytes) line
AuditComesTo limits bytes (Err (Cut line)) = (passes limits bytes ≡ false) × IsUnfinished (lines_of true bytes) line
AuditComesTo limits bytes (Err fault) = Unit {0}
