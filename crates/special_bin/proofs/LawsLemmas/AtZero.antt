-- An audit that ends with status 0.
use Rattle.std.proofs.Common.{◌≡◌, ◌∙◌, ◌==◌, ℕ, true, false, List, Ok, Err, refl, ap, inl, inr}
use Rattle.std.specs.Prelude.{Result}
use Rattle.audit_command.specs.Inputs.{IsFound, audit_limits}
use Rattle.audit_command.specs.declared.error.AuditError.{AuditError}
use Rattle.audit_command.specs.declared.error.AuditError.TheVariants.{Entry, Cut, Failed, NoMemory}
use Rattle.journal_audit.specs.declared.found.Audit.{Audit}
use Rattle.journal_audit.specs.declared.found.Audit.TheVariants.{Legal, Wrong}
use Rattle.run_and_check.specs.Run.Inputs.{InputFlow}
use Rattle.special_cli.specs.Audits.{IsAuditOf, end_of_audit}
use Rattle.special_cli.specs.Left.{Left}
use Rattle.special_cli.specs.Tells.{Flow, IsWritten, IsToldOf}
use Rattle.cli_words.specs.TaskInput.Reads.{HasGiven}

pub not_zero : {A : Type 0} (w : ℕ) (written : List ℕ) (f : Flow) → (w == 0) ≡ false → IsWritten w written 0 f → A
not_zero w written f other (inl whole) = absurd (let bad : true ≡ false = ap (λ (s : ℕ). s == 0) whole.status_is ∙ other in cc)
not_zero w written f other (inr cut) = absurd (let bad : 0 ≡ 5 = cut.status_is in cc)

pub legal_at_zero : (input : InputFlow) (out err : Flow) (left : Left) (outcome : Result Audit AuditError) → IsAuditOf input outcome → IsToldOf left 0 out err (end_of_audit outcome)
    → (bytes : List ℕ) × HasGiven input.given input.given' input.left input.left' bytes × IsFound audit_limits bytes Legal
legal_at_zero input out err left (Ok Legal) a told = (a.bytes, a.gave, a.read.0)
legal_at_zero input out err left (Ok (Wrong entry kind)) a (inl said) = not_zero 1 _ out refl said.0
legal_at_zero input out err left (Ok (Wrong entry kind)) a (inr said) = not_zero 7 _ err refl said.0
legal_at_zero input out err left (Err (Entry line)) a (inl said) = not_zero 3 _ err refl said.0
legal_at_zero input out err left (Err (Entry line)) a (inr said) = not_zero 7 _ err refl said.0
legal_at_zero input out err left (Err (Cut line)) a (inl said) = not_zero 3 _ err refl said.0
legal_at_zero input out err left (Err (Cut line)) a (inr said) = not_zero 7 _ err refl said.0
legal_at_zero input out err left (Err Failed) a told = not_zero 4 _ err refl told.0
legal_at_zero input out err left (Err NoMemory) a told = not_zero 7 _ err refl told.0
