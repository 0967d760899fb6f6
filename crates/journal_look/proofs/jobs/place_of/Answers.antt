use Rattle.std.proofs.Common.{sym}
use Rattle.journal_look.proofs.Opening.{place_here}
use Rattle.journal_look.proofs.jobs.place_of.Goals as goal

pub returns-in-Some : goal.returns-in-Some
returns-in-Some c past are = place_here past c.args.jobs.now c.args.child c.args.job c.in-Some.x.now are (sym c.in-Some.ensures)
