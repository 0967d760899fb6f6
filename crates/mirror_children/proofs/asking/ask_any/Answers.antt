use Rattle.std.proofs.Common.{length, sym, vec_len, ◌∙◌}
use Rattle.host_talk.specs.Request.Requests.{message_of}
use Rattle.mirror_children.proofs.Answering.{any_refused, any_yes, some_left}
use Rattle.mirror_children.proofs.asking.ask_any.Goals as goal

pub returns-then-is_done-clause-rules : goal.returns-then-is_done-clause-rules
returns-then-is_done-clause-rules g c =
    let some = some_left c.is_empty.result (vec_len c.args.children.now) (length c.args.children.now.items) c.if-is_empty.false c.is_empty.ensures c.args.children.now.ok.0 in
    any_yes (message_of c.args.request.now) c.args.children.now.items c.ask_each.new.children.items _ c.in_ok-verdict.verdict some c.in_ok-verdict.ensures.asks (sym c.is_done.ensures ∙ c.if-is_done.true)

pub returns-else-is_done-clause-rules : goal.returns-else-is_done-clause-rules
returns-else-is_done-clause-rules g c =
    let some = some_left c.is_empty.result (vec_len c.args.children.now) (length c.args.children.now.items) c.if-is_empty.false c.is_empty.ensures c.args.children.now.ok.0 in
    any_refused (message_of c.args.request.now) c.args.children.now.items c.ask_each.new.children.items _ c.in_ok-verdict.verdict some c.in_ok-verdict.ensures.asks
    c.failure.result (sym c.is_done.ensures ∙ c.if-is_done.false) c.failure.ensures.text
