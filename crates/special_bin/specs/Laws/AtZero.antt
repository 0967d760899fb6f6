-- What an audit has found that ends with status 0.
use Rattle.std.specs.Prelude.{ℕ, List}
use Rattle.audit_command.specs.Inputs.{IsFound, audit_limits}
use Rattle.child_life.specs.End.Outsides.{OutsideValue}
use Rattle.journal_audit.specs.declared.found.Audit.TheVariants.{Legal}
use Rattle.run_and_check.specs.Run.Inputs.{InputFlow}
use Rattle.special_cli.specs.Calls.{IsAuditCalled}
use Rattle.special_cli.specs.Left.{Left}
use Rattle.special_cli.specs.Tells.{Flow}
use Rattle.cli_words.specs.TaskInput.Reads.{HasGiven}

-- What the input gave is the whole text of a run, within the limits, whose journal is legal.
abbrev pub ZeroIsLegal : Type 0
ZeroIsLegal =
    (before : OutsideValue) (input : InputFlow) (out err : Flow) (left : Left) → IsAuditCalled before input 0 out err left
    → (bytes : List ℕ) × HasGiven input.given input.given' input.left input.left' bytes × IsFound audit_limits bytes Legal
