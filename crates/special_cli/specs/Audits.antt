-- What comes of an audit of the input.
use Rattle.std.specs.Prelude.{ℕ, ◌≡◌, List, [], ◌∷◌, ◌++◌, codes, decimal, IfSome, Result, Ok, Err}
use Rattle.audit_command.specs.Inputs.{AuditComesTo, audit_limits}
use Rattle.audit_command.specs.Reads.{IsCounted, IsRead}
use Rattle.audit_command.specs.declared.error.AuditError.{AuditError}
use Rattle.audit_command.specs.declared.error.AuditError.TheVariants as A
use Rattle.child_life.specs.End.Outsides.{OutsideValue}
use Rattle.cli_words.specs.declared.refusals.Reason.TheVariants.{Entry as BadEntry, Cut as NoEnd}
use Rattle.journal_audit.specs.declared.found.Audit.{Audit}
use Rattle.journal_audit.specs.declared.found.Audit.TheVariants.{Legal, Wrong}
use Rattle.run_and_check.specs.Run.Inputs.{InputFlow}
use Rattle.special_cli.specs.Left.{RanValue, IsIdle}
use Rattle.special_cli.specs.declared.end.End.{End}
use Rattle.special_cli.specs.declared.end.End.TheVariants.{Refused, Memory, InputFailed, Audited}
use Rattle.cli_words.specs.TaskInput.Reads.{HasGiven}

-- what is printed of what was found: `legal`, or `wrong` with the entry's place and its kind's number
abbrev pub found_line : Audit → List ℕ
found_line Legal = codes "legal" ++ 10 ∷ []
found_line (Wrong entry kind) = codes "wrong " ++ (decimal entry ++ (codes " " ++ (decimal kind ++ 10 ∷ [])))

-- the status that goes with it
abbrev pub found_status : Audit → ℕ
found_status Legal = 0
found_status (Wrong entry kind) = 1

-- This comes of bytes that the input gave, up to its end or past a limit; and where it told at first what it holds, it comes of
-- all of that.
pub record IsAuditOf (input : InputFlow) (outcome : Result Audit AuditError) : Type 0 where
  pub bytes : List ℕ
  pub gave : HasGiven input.given input.given' input.left input.left' bytes
  pub read : IsRead audit_limits bytes input.left' outcome
  pub told : IfSome input.left (λ all. AuditComesTo audit_limits all outcome)
  pub counted : IsCounted input.faults input.faults' outcome

-- what is to be told of it
abbrev pub end_of_audit : Result Audit AuditError → End
end_of_audit (Ok found) = Audited found
end_of_audit (Err (A.Entry line)) = Refused line BadEntry
end_of_audit (Err (A.Cut line)) = Refused line NoEnd
end_of_audit (Err A.Failed) = InputFailed
end_of_audit (Err A.NoMemory) = Memory

-- the input was audited, and nothing is left of it but what is to be told
pub record HasAudited (before : OutsideValue) (input : InputFlow) (ran : RanValue) : Type 0 where
  pub outcome : Result Audit AuditError
  pub audit : IsAuditOf input outcome
  pub idle : IsIdle before ran.left
  pub end_is : ran.end ≡ end_of_audit outcome
