use Rattle.std.proofs.Common.{◌∙◌, refl, sym, arith}
use Rattle.ann_key.specs.KeyRefs.{parts_of}
use Rattle.task_run.proofs.RoundLaws.{asked_nothing, asked_more, asked_last, asked_all}
use Rattle.task_model.proofs.Texts.{same_still, same_on}
use Rattle.task_run.proofs.layouts.ask_layout.Goals as goal

pub loop-at-init : goal.loop-at-init
loop-at-init g c = record {
  asked = asked_nothing _ _ _;
  notes = refl;
  layouts = refl;
  same = same_still _;
  on = g.met.A.Asker.stays _ c.requires.ready;
}

pub ask_key-requires-clause-ready : goal.ask_key-requires-clause-ready
ask_key-requires-clause-ready g c = g.met.A.Asker.is_ready _ _ c.loop-at.invariant.on

pub returns-then-not-is_done-clause-asks : goal.returns-then-not-is_done-clause-asks
returns-then-not-is_done-clause-asks g c =
    asked_last _ _ _ _ (parts_of c.args.key) _ _ c.in_ok-piece.piece _ c.loop-at.invariant.asked (rw (c.key_count-at-end.ensures, c.size.ensures) at c.loop-at-test.true) c.in_ok-piece.ensures.read (rw c.view.ensures at c.in_ok-verdict.ensures.pairs)
    (sym c.is_done.ensures ∙ c.if-not-is_done.true) c.in_ok-verdict.ensures.verdict

pub returns-then-not-is_done-clause-on : goal.returns-then-not-is_done-clause-on
returns-then-not-is_done-clause-on g c = g.met.A.Asker.goes_both _ _ _ c.loop-at.invariant.on c.in_ok-verdict.ensures.on

pub returns-in_err-verdict-clause-on : goal.returns-in_err-verdict-clause-on
returns-in_err-verdict-clause-on g c = g.met.A.Asker.goes_both _ _ _ c.loop-at.invariant.on c.in_err-verdict.ensures.on

pub loop-at-preserved : goal.loop-at-preserved
loop-at-preserved g c =
    let i = c.loop-at.invariant in
    let e = c.in_ok-verdict.ensures in
    record {
      asked = asked_more _ _ _ _ (parts_of c.args.key) _ _ c.in_ok-piece.piece _ i.asked (rw (c.key_count-at-end.ensures, c.size.ensures) at c.loop-at-test.true) c.in_ok-piece.ensures.read (rw c.view.ensures at e.pairs) (sym c.is_done.ensures ∙ c.if-not-is_done.false);
      notes = e.notes ∙ i.notes;
      layouts = e.layouts ∙ i.layouts;
      same = same_on i.same e.same;
      on = g.met.A.Asker.goes_both _ _ _ i.on e.on;
    }

pub returns-clause-asks : goal.returns-clause-asks
returns-clause-asks g c =
    asked_all _ _ _ (parts_of c.args.key) _ _ c.loop-at.invariant.asked (omega (arith, c.loop-at.auto.at-end, c.loop-at-test.false, rw c.size.ensures at c.key_count-at-end.ensures))
