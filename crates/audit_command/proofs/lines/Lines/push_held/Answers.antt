use Rattle.std.proofs.Common.{ℕ, List, subst}
use Rattle.journal_reader.specs.Readings.{Follows, IsFault}
use Rattle.journal_reader.specs.declared.error.JournalError.{JournalError}
use Rattle.journal_reader.specs.declared.error.JournalError.TheVariants.{BadLine}
use Rattle.audit_command.proofs.Refusing.{line_taken, line_refused}
use Rattle.audit_command.proofs.lines.Lines.push_held.Goals as goal

pub returns-in-Ok : goal.returns-in-Ok
returns-in-Ok c = λ lines rest h.
    let old = c.args.self.now in
    let P : List ℕ → Type 0 = λ l. Follows old.reader l c.push.new.self in
    line_taken lines rest old.reader old.held.items old.bad c.push.new.self _ c.requires (subst P c.as_slice.ensures.value c.in-Ok.ensures.taken) c.clear.ensures.items h

pub returns-in-Err-BadLine : goal.returns-in-Err-BadLine
returns-in-Err-BadLine c = λ lines rest h.
    let old = c.args.self.now in
    let n = c.in-Err-BadLine.line in
    let P : JournalError → Type 0 = λ e. IsFault old.reader c.as_slice.result.now c.push.new.self e in
    let Q : List ℕ → Type 0 = λ l. IsFault old.reader l c.push.new.self (BadLine n) in
    line_refused lines rest old.reader old.held.items old.bad c.push.new.self n c.requires (subst Q c.as_slice.ensures.value (subst P c.in-Err-BadLine.field-0-is c.in-Err-BadLine.ensures.fault)) h
