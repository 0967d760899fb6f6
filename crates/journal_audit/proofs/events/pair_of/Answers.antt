use Rattle.std.proofs.Common.{Option, refl, subst}
use Rattle.annex_model.specs.Messages.{host_reading}
use Rattle.journal_model.specs.Journal.{addressed}
use Rattle.host_talk.specs.declared.request.request.Request.{Request}
use Rattle.journal_scan.specs.Shown.{entry_shown}
use Rattle.journal_audit.specs.Replays.{AsksAfter}
use Rattle.journal_audit.proofs.Suiting.{pairs_elsewhere, pairs_led, pairs_other, pairs_unled}
use Rattle.journal_audit.proofs.events.pair_of.Goals as goal

pub returns-in_default : goal.returns-in_default
returns-in_default c = λ by job line reads.
    pairs_other c.args.core.now.opening c.args.core.now.journal by c.args.child job line (entry_shown c.args.next) (c.in_default.ensures.none refl c.args.child job)

pub returns-then-asked-child : goal.returns-then-asked-child
returns-then-asked-child c = λ by job line reads.
    pairs_elsewhere c.args.core.now.opening c.args.core.now.journal by c.args.child job line (entry_shown c.args.next) c.in-Some.asked c.in-Some.field-0-1 c.in-Some.task c.in-Some.line.now
    c.in-Some.ensures.some c.if-asked-child.true

pub returns-in-Some-2 : goal.returns-in-Some-2
returns-in-Some-2 c = λ by job line reads.
    pairs_led c.args.core.now.opening c.args.core.now.journal by c.args.child job line c.args.name.now (entry_shown c.args.next) c.in-Some.asked c.in-Some.field-0-1 c.in-Some.task c.in-Some.line.now
    c.in-Some-2.request c.in-Some.ensures.some c.if-asked-child.false
    (subst (λ (x : Option Request). AsksAfter c.args.name.now (host_reading (addressed c.args.core.now.journal c.args.child c.in-Some.line.now).1) x) c.in-Some-2.is c.in_ok-request.ensures) reads

pub returns-in-None : goal.returns-in-None
returns-in-None c = λ by job line reads.
    pairs_unled c.args.core.now.opening c.args.core.now.journal by c.args.child job line c.args.name.now (entry_shown c.args.next) c.in-Some.asked c.in-Some.field-0-1 c.in-Some.task c.in-Some.line.now
    c.in-Some.ensures.some c.if-asked-child.false
    (subst (λ (x : Option Request). AsksAfter c.args.name.now (host_reading (addressed c.args.core.now.journal c.args.child c.in-Some.line.now).1) x) c.in-None.is c.in_ok-request.ensures) reads
