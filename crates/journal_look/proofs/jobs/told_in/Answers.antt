use Rattle.std.proofs.Common.{sym}
use Rattle.journal_look.proofs.Opening.{told_found}
use Rattle.journal_look.proofs.jobs.told_in.Goals as goal

pub returns-in-Some : goal.returns-in-Some
returns-in-Some c past are = told_found past c.args.told.now c.args.child c.args.job c.in-Some.one.now are (sym c.in-Some.ensures)
