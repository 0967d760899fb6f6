use Rattle.std.proofs.Common.{subst}
use Rattle.journal_reader.specs.Readings.{IsRefusalAs}
use Rattle.journal_reader.specs.declared.error.JournalError.{JournalError}
use Rattle.audit_command.proofs.Cutting.{lines_come, never_refused}
use Rattle.audit_command.proofs.lines.run_so_far.Goals as goal

pub returns-in-Ok : goal.returns-in-Ok
returns-in-Ok c = λ lines reads. lines_come lines c.args.reader c.in-Ok.run' reads c.in-Ok.ensures.begun c.in-Ok.ensures.opening c.in-Ok.ensures.journal

pub returns-in-Err-BadLine : goal.returns-in-Err-BadLine
returns-in-Err-BadLine c = λ lines reads.
    let P : JournalError → Type 0 = λ e. IsRefusalAs c.args.reader.place e in
    never_refused lines c.args.reader c.in-Err-BadLine.line reads (subst P c.in-Err-BadLine.field-0-is c.in-Err-BadLine.ensures.fault)
