use Rattle.annex_model.specs.Messages.{host_reading}
use Rattle.journal_model.specs.Journal.{addressed}
use Rattle.journal_audit.proofs.Suiting.{said, text_never, text_says, unsaid}
use Rattle.journal_audit.proofs.requests.name_text.Goals as goal

pub returns-in-Some-clause-some : goal.returns-in-Some-clause-some
returns-in-Some-clause-some c =
    text_says c.args.core.now.journal c.args.child c.args.line.now c.in-Some.name.now c.text.result
    (said (host_reading (addressed c.args.core.now.journal c.args.child c.args.line.now).1) c.in-Some.name.now c.in-Some.ensures) c.text.ensures.same

pub returns-in-Some-clause-none : goal.returns-in-Some-clause-none
returns-in-Some-clause-none c =
    text_never c.args.core.now.opening c.args.core.now.journal c.args.child c.args.line.now c.in-Some.name.now c.text.result
    (said (host_reading (addressed c.args.core.now.journal c.args.child c.args.line.now).1) c.in-Some.name.now c.in-Some.ensures) c.text.ensures.none

pub returns-in-None-clause-none : goal.returns-in-None-clause-none
returns-in-None-clause-none c = λ none by job. unsaid c.args.core.now.opening c.args.core.now.journal by c.args.child job c.args.line.now c.in-None.ensures
