use Rattle.std.proofs.Common.{ap, ◌∙◌}
use Rattle.annex_model.specs.Messages.{host_reading}
use Rattle.journal_model.specs.Journal.{addressed}
use Rattle.wire_msg.specs.Shown.{host_shown}
use Rattle.journal_audit.proofs.Suiting.{after_named, after_none, after_unread, read_asks, read_none}
use Rattle.journal_audit.proofs.requests.asked_after.Goals as goal

pub returns-in_default : goal.returns-in_default
returns-in_default c =
    after_unread c.args.name.now (host_reading (addressed c.args.core.now.journal c.args.child c.args.line.now).1) (c.in_default.ensures.reading ∙ ap host_reading c.text_of.ensures)

pub returns-in-Some-2 : goal.returns-in-Some-2
returns-in-Some-2 c =
    after_named c.args.name.now (host_reading (addressed c.args.core.now.journal c.args.child c.args.line.now).1) (host_shown c.in-Some.message) c.in-Some-2.request c.in_ok-name.name c.with_name.result
    (c.in-Some.ensures.reading ∙ ap host_reading c.text_of.ensures) (read_asks c.in_ok-request.field-0 c.in-Some-2.request (host_shown c.in-Some.message) c.in_ok-request.ensures.asks c.in-Some-2.is)
    (c.in_ok-name.ensures ∙ c.view.ensures) c.with_name.ensures.asks c.with_name.ensures.named c.with_name.ensures.none

pub returns-in-None : goal.returns-in-None
returns-in-None c =
    after_none c.args.name.now (host_reading (addressed c.args.core.now.journal c.args.child c.args.line.now).1) (host_shown c.in-Some.message)
    (c.in-Some.ensures.reading ∙ ap host_reading c.text_of.ensures) (read_none c.in_ok-request.field-0 (host_shown c.in-Some.message) c.in_ok-request.ensures.none c.in-None.is)
