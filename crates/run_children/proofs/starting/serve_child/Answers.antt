use Rattle.std.proofs.Common.{◌≡◌, arith, inl, inr, length, map, subst, sym, vec_len, ◌∙◌}
use Rattle.std.proofs.lemmas.List.{length-map}
use Rattle.journal_model.specs.declared.opening.Opening.{Opening}
use Rattle.journal_model.specs.Legality.{Legal}
use Rattle.run_children.proofs.Firsts.{first_by, lone_leaves}
use Rattle.run_children.proofs.starting.serve_child.Goals as goal
use Rattle.run_children.proofs.starting.serve_child.Goals.{else-not-tagged-via-then-not-tagged+else-len-gt1, else-not-tagged-via-else-not-tagged}

pub returns-clause-served : goal.returns-clause-served
returns-clause-served g c =
    let desks = map g.K.Desk.told c.args.bench.desks.items in
    let many : length desks ≡ vec_len c.args.bench.desks = length-map c.args.bench.desks.items _ ∙ sym c.args.bench.desks.ok.0 in
    let same = c.serve_ready-link.ensures.same in
    first_by c.serve_ready-link.result.2 c.serve_ready-link.ensures.serves
    (elim c.else-not-tagged.branch [
      | else-not-tagged-via-then-not-tagged+else-len-gt1 w ↦ inl (let few = w.if-len-gt1.false in let len = w.len.ensures in let some = c.requires.desks.0 in omega (arith, many, few, len, some))
      | else-not-tagged-via-else-not-tagged w ↦ inr (sym c.requires.ready.can.tag ∙ w.if-not-tagged.false)
    ])
    c.requires.ready.can (subst (λ (w : Opening). Legal w c.serve_ready-link.result.1.core.journal) c.serve_ready-link.ensures.core.opening (c.serve_ready-link.ensures.core.legal c.requires.ready.can.can.serves.legal)) c.requires.ready.last_child
    (λ (W : Type 0). lone_leaves W c.args.setting.now.plan.now.program c.serve_ready-link.result.1.core.journal (g.P.Programs.told c.args.programs.now) (g.P.Programs.told c.finish.new.programs)
    c.args.child.link.ear c.serve_ready-link.result.0.ear c.args.child.link.mouth c.serve_ready-link.result.0.mouth _ _ c.finish.ensures.starts c.finish.ensures.later same.0 same.1 c.serve_ready-link.result.0.one_child c.serve_ready-link.ensures.held c.finish.ensures.laid)
    c.serve_ready-link.result.0.one_child c.finish.ensures.laid c.finish.ensures.starts c.finish.ensures.later
