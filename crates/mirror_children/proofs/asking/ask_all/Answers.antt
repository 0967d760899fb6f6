use Rattle.std.proofs.Common.{◌<◌, length, sym, vec_len, ◌∙◌, arith}
use Rattle.host_talk.specs.Request.Requests.{message_of}
use Rattle.mirror_children.proofs.Answering.{all_refused, some_left}
use Rattle.mirror_children.proofs.Fronts.{within}
use Rattle.mirror_children.proofs.asking.ask_all.Goals as goal

pub index-requires : goal.index-requires
index-requires g c =
    let inside : c.in_ok-at.at < length c.ask_each.new.children.items = within (message_of c.args.request.now) c.args.children.now.items c.ask_each.new.children.items c.in_ok-at.at c.in_ok-at.verdict c.in_ok-at.ensures.asks in
    omega (arith, inside, c.ask_each.new.children.ok.0)

pub returns-else-is_done-clause-rules : goal.returns-else-is_done-clause-rules
returns-else-is_done-clause-rules g c =
    let some = some_left c.is_empty.result (vec_len c.args.children.now) (length c.args.children.now.items) c.if-is_empty.false c.is_empty.ensures c.args.children.now.ok.0 in
    all_refused (message_of c.args.request.now) c.args.children.now.items c.ask_each.new.children.items c.in_ok-at.at c.in_ok-at.verdict some c.in_ok-at.ensures.asks
    c.index.result.now c.refusal.result (sym c.is_done.ensures ∙ c.if-is_done.false) (sym c.index.ensures) c.refusal.ensures.text
