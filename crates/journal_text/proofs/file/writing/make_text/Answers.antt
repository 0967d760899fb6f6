use Rattle.std.proofs.Common.{Err, ap}
use Rattle.journal_text.specs.Lines.JournalTexts.{journal_lines}
use Rattle.journal_text.proofs.FileLemmas.Added.{made_nothing, made_refused, made_then}
use Rattle.journal_text.proofs.file.writing.make_text.Goals as goal

pub returns-in-Err-clause-calls : goal.returns-in-Err-clause-calls
returns-in-Err-clause-calls g c =
    made_refused c.args.name.now (journal_lines c.args.opening.now c.args.journal.now.entries) _ _ c.in-Err.error (λ e. c.in-Err.ensures.found (ap Err e)) c.in-Err.ensures.log

pub returns-clause-calls : goal.returns-clause-calls
returns-clause-calls g c =
    made_then c.args.name.now (journal_lines c.args.opening.now c.args.journal.now.entries) _ _ _ c.append_lines.result c.in_default-create.ensures.log c.append_lines.ensures.calls

pub returns-in_default-clause-calls : goal.returns-in_default-clause-calls
returns-in_default-clause-calls g c = made_nothing c.args.name.now (journal_lines c.args.opening.now c.args.journal.now.entries) (g.D.Desk.told c.args.desk.now).log

pub returns-in_default-line_count-clause-calls : goal.returns-in_default-line_count-clause-calls
returns-in_default-line_count-clause-calls g c = made_nothing c.args.name.now (journal_lines c.args.opening.now c.args.journal.now.entries) (g.D.Desk.told c.args.desk.now).log

pub returns-in_default-lines-clause-calls : goal.returns-in_default-lines-clause-calls
returns-in_default-lines-clause-calls g c = made_nothing c.args.name.now (journal_lines c.args.opening.now c.args.journal.now.entries) (g.D.Desk.told c.args.desk.now).log
