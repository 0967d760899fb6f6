-- What was read of a source.
use Rattle.std.specs.Prelude.{ℕ, ◌≡◌, false, List, Option, Result, Ok, Err}
use Rattle.std.specs.Io.KnownBytes.{IsAtEnd}
use Rattle.ann_outside.specs.Causes.{Rose}
use Rattle.journal_audit.specs.declared.found.Audit.{Audit}
use Rattle.audit_command.specs.Inputs.{passes, AuditComesTo}
use Rattle.audit_command.specs.declared.limits.Limits.{Limits}
use Rattle.audit_command.specs.declared.error.AuditError.{AuditError}
use Rattle.audit_command.specs.declared.error.AuditError.TheVariants.{Entry, Cut, Failed, NoMemory}

-- a failure only where the count rose; else the count stays
abbrev pub IsCounted : {T : Type 0} → ℕ → ℕ → Result T AuditError → Type 0
IsCounted before now (Ok x) = now ≡ before
IsCounted before now (Err (Entry line)) = now ≡ before
IsCounted before now (Err (Cut line)) = now ≡ before
IsCounted before now (Err Failed) = Rose before now
IsCounted before now (Err NoMemory) = now ≡ before

-- The bytes come to the result, and were read to the source's end or past a limit. Nothing is said where the source failed, and
-- where no memory was found.
abbrev pub IsRead : Limits → List ℕ → Option (List ℕ) → Result Audit AuditError → Type 0
IsRead limits bytes left (Err Failed) = Unit {0}
IsRead limits bytes left (Err NoMemory) = Unit {0}
IsRead limits bytes left result = AuditComesTo limits bytes result × (passes limits bytes ≡ false → IsAtEnd left)
