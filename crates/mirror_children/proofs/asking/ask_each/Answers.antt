use Rattle.std.proofs.Common.{◌++◌, ◌∷◌, [], ◌≡◌, ◌==◌, ◌+◌, not, false, true, length, ap, sym, ◌∙◌, arith, ℕ}
use Rattle.std.specs.Prelude.{◌||◌}
use Rattle.std.proofs.lemmas.Result.{err_from_is_err_and}
use Rattle.host_talk.specs.Request.Requests.{message_of}
use Rattle.mirror_children.specs.Asking.{goes_while}
use Rattle.mirror_children.proofs.Fronts.{asked_front, asked_to, asks_err, at_first, at_next, goes_more, last_either, left_front}
use Rattle.mirror_children.proofs.asking.ask_each.Goals as goal

pub children-init : goal.children-init
children-init g c = at_first (goes_while c.args.while_done) (message_of c.args.request.now) c.args.children.now.items c.requires.some c.requires.serving

pub returns-in_err-verdict-clause-asks : goal.returns-in_err-verdict-clause-asks
returns-in_err-verdict-clause-asks g c =
    let a = c.children.invariant in
    let goes = goes_while c.args.while_done in
    let q = message_of c.args.request.now in
    let p = err_from_is_err_and c.from_residual.result c.from_residual.ensures.1 in
    asks_err goes q c.args.children.now.items c.ask_at.new.children.items a.verdicts c.from_residual.result p.0 p.1
    (left_front goes q c.args.children.now.items c.children.children.items c.ask_at.new.children.items c.children.at a a.more c.in_err-verdict.ensures.none)

pub returns-then-is_starved-clause-asks : goal.returns-then-is_starved-clause-asks
returns-then-is_starved-clause-asks g c =
    let a = c.children.invariant in
    (a.verdicts ++ c.in_ok-verdict.verdict ∷ [], asked_front (goes_while c.args.while_done) (message_of c.args.request.now) c.args.children.now.items c.children.children.items c.ask_at.new.children.items c.children.at a a.more c.in_ok-verdict.verdict c.in_ok-verdict.ensures.asked)

pub returns-then-is_last-clause-asks : goal.returns-then-is_last-clause-asks
returns-then-is_last-clause-asks g c =
    let a = c.children.invariant in
    let old = c.args.children.now.items in
    let v = c.in_ok-verdict.verdict in
    let goes = goes_while c.args.while_done in
    let count : c.len-count.result ≡ length old = omega (arith, c.len-count.ensures, c.args.children.now.ok.0) in
    let last : (not (goes v) || c.children.at + 1 == length old) ≡ true = ap (λ (n : ℕ). not (goes v) || c.children.at + 1 == n) (sym count) ∙ sym c.is_last.ensures ∙ c.if-is_last.true in
    asked_to goes (message_of c.args.request.now) old c.children.children.items c.ask_at.new.children.items c.children.at a a.more v c.in_ok-verdict.ensures.asked
    (last_either (goes v) c.children.at (length old) last) (sym c.is_starved.ensures ∙ c.if-is_starved.false)

pub children-preserved : goal.children-preserved
children-preserved g c =
    let a = c.children.invariant in
    let old = c.args.children.now.items in
    let v = c.in_ok-verdict.verdict in
    let goes = goes_while c.args.while_done in
    let count : c.len-count.result ≡ length old = omega (arith, c.len-count.ensures, c.args.children.now.ok.0) in
    let on : (not (goes v) || c.children.at + 1 == length old) ≡ false = ap (λ (n : ℕ). not (goes v) || c.children.at + 1 == n) (sym count) ∙ sym c.is_last.ensures ∙ c.if-is_last.false in
    let t = goes_more (goes v) c.children.at (length old) a.more on in
    at_next goes (message_of c.args.request.now) old c.children.children.items c.ask_at.new.children.items c.children.at a a.more v c.in_ok-verdict.ensures.asked
    t.0 (sym c.is_starved.ensures ∙ c.if-is_starved.false) c.ask_at.ensures.serving t.1

pub unreachable-requires : goal.unreachable-requires
unreachable-requires g c = let more = c.children.invariant.more in omega (arith, more, c.children-test.false, c.len-count.ensures, c.args.children.now.ok.0)
