use Rattle.wire_msg.specs.Shown.{host_shown}
use Rattle.journal_audit.proofs.Suiting.{suits_ask, suits_none, read_asks, read_none}
use Rattle.journal_audit.proofs.events.ask_event.Goals as goal

pub returns-in-Some-asked : goal.returns-in-Some-asked
returns-in-Some-asked c = λ by job.
    suits_ask c.args.core.now.opening c.args.core.now.journal by c.args.child job c.args.task c.args.line.now c.text_of.result.now (host_shown c.in-Some.message) c.in-Some-asked.request
    c.text_of.ensures c.in-Some.ensures.reading (read_asks c.in_ok-asked.asked c.in-Some-asked.request (host_shown c.in-Some.message) c.in_ok-asked.ensures.asks c.in-Some-asked.is)

pub returns-in-None : goal.returns-in-None
returns-in-None c = λ by job.
    suits_none c.args.core.now.opening c.args.core.now.journal by c.args.child job c.args.task c.args.line.now c.text_of.result.now (host_shown c.in-Some.message)
    c.text_of.ensures c.in-Some.ensures.reading (read_none c.in_ok-asked.asked (host_shown c.in-Some.message) c.in_ok-asked.ensures.none c.in-None.is)
