use Rattle.std.proofs.Common.{sym, []}
use Rattle.journal_look.proofs.Counting.{cursor_found}
use Rattle.journal_look.proofs.cursors.cursor_of.Goals as goal

pub returns-in-Some-clause-child : goal.returns-in-Some-clause-child
returns-in-Some-clause-child c = (cursor_found [] c.args.cursors.now c.args.child c.in-Some.x.now (sym c.in-Some.ensures)).0

pub returns-in-Some-clause-right : goal.returns-in-Some-clause-right
returns-in-Some-clause-right c past = (cursor_found past c.args.cursors.now c.args.child c.in-Some.x.now (sym c.in-Some.ensures)).1
