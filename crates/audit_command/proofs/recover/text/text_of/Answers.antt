use Rattle.std.proofs.Common.{[], Err, subst}
use Rattle.audit_command.specs.Inputs.{audit_limits}
use Rattle.audit_command.specs.SoFar.{ComesSoFar}
use Rattle.audit_command.specs.declared.error.AuditError.{AuditError}
use Rattle.audit_command.proofs.recover.text.text_of.Goals as goal

pub unreachable-requires : goal.unreachable-requires
unreachable-requires c =
    let P : AuditError → Type 0 = λ e. ComesSoFar audit_limits c.args.text.now (Err e) in
    let comes = subst P c.in-Err-Cut.field-0-is (c.in-Err-Cut.ensures audit_limits c.args.text.now (c.in_ok-take_piece.ensures [] (c.new-intake.ensures audit_limits))) in
    comes.2

pub unreachable-requires-in-Err-Failed : goal.unreachable-requires-in-Err-Failed
unreachable-requires-in-Err-Failed c =
    let P : AuditError → Type 0 = λ e. ComesSoFar audit_limits c.args.text.now (Err e) in
    let comes = subst P c.in-Err-Failed.field-0-is (c.in-Err-Failed.ensures audit_limits c.args.text.now (c.in_ok-take_piece.ensures [] (c.new-intake.ensures audit_limits))) in
    comes.2

pub returns-in-Ok : goal.returns-in-Ok
returns-in-Ok c = c.in-Ok.ensures audit_limits c.args.text.now (c.in_ok-take_piece.ensures [] (c.new-intake.ensures audit_limits))

pub returns-in-Err-Entry : goal.returns-in-Err-Entry
returns-in-Err-Entry c =
    let P : AuditError → Type 0 = λ e. ComesSoFar audit_limits c.args.text.now (Err e) in
    subst P c.in-Err-Entry.field-0-is (c.in-Err-Entry.ensures audit_limits c.args.text.now (c.in_ok-take_piece.ensures [] (c.new-intake.ensures audit_limits)))
