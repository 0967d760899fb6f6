use Rattle.std.proofs.Common.{◌<◌, length, sym, vec_len, ◌∙◌, arith}
use Rattle.host_talk.specs.Request.Requests.{message_of}
use Rattle.mirror_children.proofs.Answering.{check_no, check_refused, some_left}
use Rattle.mirror_children.proofs.Fronts.{within}
use Rattle.mirror_children.proofs.asking.ask_check.Goals as goal

pub index-requires : goal.index-requires
index-requires g c =
    let inside : c.in_ok-at.at < length c.ask_each.new.children.items = within (message_of c.args.request.now) c.args.children.now.items c.ask_each.new.children.items c.in_ok-at.at c.in_ok-at.verdict c.in_ok-at.ensures.asks in
    omega (arith, inside, c.ask_each.new.children.ok.0)

pub returns-then-is_absent-clause-rules : goal.returns-then-is_absent-clause-rules
returns-then-is_absent-clause-rules g c =
    let some = some_left c.is_empty.result (vec_len c.args.children.now) (length c.args.children.now.items) c.if-is_empty.false c.is_empty.ensures c.args.children.now.ok.0 in
    check_no (message_of c.args.request.now) c.args.children.now.items c.ask_each.new.children.items c.in_ok-at.at c.in_ok-at.verdict some c.in_ok-at.ensures.asks
    (sym c.is_done.ensures ∙ c.if-is_done.false) (sym c.is_absent.ensures ∙ c.if-is_absent.true)

pub returns-else-is_absent-clause-rules : goal.returns-else-is_absent-clause-rules
returns-else-is_absent-clause-rules g c =
    let some = some_left c.is_empty.result (vec_len c.args.children.now) (length c.args.children.now.items) c.if-is_empty.false c.is_empty.ensures c.args.children.now.ok.0 in
    check_refused (message_of c.args.request.now) c.args.children.now.items c.ask_each.new.children.items c.in_ok-at.at c.in_ok-at.verdict some c.in_ok-at.ensures.asks
    c.index.result.now c.refusal.result (sym c.is_done.ensures ∙ c.if-is_done.false) (sym c.is_absent.ensures ∙ c.if-is_absent.false) (sym c.index.ensures) c.refusal.ensures.text
