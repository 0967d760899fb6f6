use Rattle.run_and_check.proofs.RunLemmas.Journaled.{writes_kept_alone}
use Rattle.run_and_check.proofs.run.keeping.write_both.Goals as goal

pub returns-in_err-journal-clause-writes : goal.returns-in_err-journal-clause-writes
returns-in_err-journal-clause-writes g c =
    let mid = g.D.Desk.told c.keep.new.desk in
    let table = g.D.Desk.told c.write_text.new.desk in
    let core = c.args.core.now in
    writes_kept_alone c.args.words.now (g.D.Desk.told c.args.desk.now).files mid table core.opening core.journal c.in_ok-kept.kept c.in_err-journal.field-0.0 c.from_residual-in_err-journal.result
    c.from_residual-in_err-journal.ensures.0 c.in_ok-kept.ensures.keeps c.in_err-journal.ensures.journaled
