use Rattle.std.proofs.Common.{subst}
use Rattle.journal_reader.specs.Readings.{IsEndAs}
use Rattle.journal_reader.specs.declared.error.JournalError.{JournalError}
use Rattle.audit_command.proofs.Ending.{text_read, never_bad, text_cut}
use Rattle.audit_command.proofs.lines.run_of.Goals as goal

pub returns-in-Ok : goal.returns-in-Ok
returns-in-Ok c = λ lines reads.
    text_read lines c.args.reader c.in-Ok.run'.0 c.in-Ok.run'.1.entries reads c.in-Ok.ensures.whole c.in-Ok.ensures.opening c.in-Ok.ensures.journal

pub returns-in-Err-BadLine : goal.returns-in-Err-BadLine
returns-in-Err-BadLine c = λ lines reads.
    let P : JournalError → Type 0 = λ e. IsEndAs c.args.reader.place c.args.reader.taken e in
    never_bad lines c.args.reader c.in-Err-BadLine.line reads (subst P c.in-Err-BadLine.field-0-is c.in-Err-BadLine.ensures.fault)

pub returns-in-Err-Cut : goal.returns-in-Err-Cut
returns-in-Err-Cut c = λ lines reads.
    let P : JournalError → Type 0 = λ e. IsEndAs c.args.reader.place c.args.reader.taken e in
    text_cut lines c.args.reader c.in-Err-Cut.line reads (subst P c.in-Err-Cut.field-0-is c.in-Err-Cut.ensures.fault)
