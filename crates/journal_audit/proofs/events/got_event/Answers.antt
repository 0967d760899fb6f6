use Rattle.journal_audit.proofs.Suiting.{suits_got}
use Rattle.journal_audit.proofs.events.got_event.Goals as goal

pub returns : goal.returns
returns c = λ by. suits_got c.args.core.now.opening c.args.core.now.journal by c.args.child c.in_ok-line.line c.args.line.now c.in_ok-line.ensures
