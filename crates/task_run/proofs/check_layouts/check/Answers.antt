use Rattle.std.proofs.Common.{◌∙◌, refl, sym}
use Rattle.ann_key.specs.KeyRefs.{parts_of}
use Rattle.std.proofs.lemmas.Result.{err_from_is_err_and}
use Rattle.task_model.proofs.Texts.{same_on}
use Rattle.task_model.proofs.PlainRuns.{task_key_sent}
use Rattle.task_run.proofs.CheckRuns.{missed_nothing, missed_next, missed_all, check_nothing, check_missed, check_short, check_found, check_stopped, quiet_more, quiet_check, tried_of, split_at}
use Rattle.task_run.proofs.check_layouts.check.Goals as goal

pub returns-in_err-layouts-clause-ran : goal.returns-in_err-layouts-clause-ran
returns-in_err-layouts-clause-ran g c =
    let p = err_from_is_err_and c.from_residual.result c.from_residual.ensures.1 in
    rw (p.1, p.2, c.layouts.ensures.pairs) (check_nothing c.args.task.now _ (parts_of c.view-key.result) _ c.requires.work (rw c.view-key.ensures at c.view-key.result.spelled) _ _)

pub returns-in_err-sizes-clause-ran : goal.returns-in_err-sizes-clause-ran
returns-in_err-sizes-clause-ran g c =
    let p = err_from_is_err_and c.from_residual-in_err-sizes.result c.from_residual-in_err-sizes.ensures.1 in
    rw (p.1, p.2, c.layouts.ensures.pairs) (check_nothing c.args.task.now _ (parts_of c.view-key.result) _ c.requires.work (rw c.view-key.ensures at c.view-key.result.spelled) _ _)

pub loop-chunk-init : goal.loop-chunk-init
loop-chunk-init g c = record {
  missed = rw c.layouts.ensures.pairs (missed_nothing _);
  quiet = refl;
  notes = c.layouts.ensures.notes;
  same = c.layouts.ensures.same;
  on = c.layouts.ensures.on;
}

pub ask_layout-requires-clause-ready : goal.ask_layout-requires-clause-ready
ask_layout-requires-clause-ready g c = g.met.A.Asker.is_ready _ _ c.loop-chunk.invariant.on

pub ask_layout-requires-clause-sent : goal.ask_layout-requires-clause-sent
ask_layout-requires-clause-sent g c = rw c.view-key.ensures (task_key_sent c.args.task.now.key c.requires.task.key_class)

pub loop-chunk-preserved : goal.loop-chunk-preserved
loop-chunk-preserved g c =
    let i = c.loop-chunk.invariant in
    let e = c.in_ok-verdict.ensures in
    record {
      missed = rw c.missing_more-missing.ensures (missed_next _ _ _ (parts_of c.view-key.result) _ _ _ c.in-Some.verdict c.loop-chunk-test.true i.missed (rw c.in-Some.is at e.asks) (sym c.is_stop.ensures ∙ c.if-is_stop.false));
      quiet = rw c.missing_more-missing.ensures (quiet_more _ _ i.quiet);
      notes = e.notes ∙ i.notes;
      same = same_on i.same e.same;
      on = g.met.A.Asker.goes_both _ _ _ i.on e.on;
    }

pub returns-in_default-clause-ran : goal.returns-in_default-clause-ran
returns-in_default-clause-ran g c =
    check_found c.args.task.now _ (parts_of c.view-key.result) _ c.requires.work (rw c.view-key.ensures at c.view-key.result.spelled) c.deref-chunk-items.result.now _ _ _
    (tried_of _ _ _ (parts_of c.view-key.result) _ _ c.deref-chunk-items.ensures.value c.in_ok-sizes.ensures c.size.ensures c.in_ok-layouts.ensures.told) (split_at _ _ c.loop-chunk-test.true) _ _ _ _
    c.loop-chunk.invariant.missed (rw c.in_default.is at c.in_ok-verdict.ensures.asks)

pub returns-in_default-clause-on : goal.returns-in_default-clause-on
returns-in_default-clause-on g c = g.met.A.Asker.goes_both _ _ _ c.loop-chunk.invariant.on c.in_ok-verdict.ensures.on

pub returns-then-is_stop-clause-ran : goal.returns-then-is_stop-clause-ran
returns-then-is_stop-clause-ran g c =
    check_stopped c.args.task.now _ (parts_of c.view-key.result) _ c.requires.work (rw c.view-key.ensures at c.view-key.result.spelled) c.deref-chunk-items.result.now _ _ _
    (tried_of _ _ _ (parts_of c.view-key.result) _ _ c.deref-chunk-items.ensures.value c.in_ok-sizes.ensures c.size.ensures c.in_ok-layouts.ensures.told) (split_at _ _ c.loop-chunk-test.true) _ _ _ _
    c.loop-chunk.invariant.missed c.in-Some.verdict _ (rw c.in-Some.is at c.in_ok-verdict.ensures.asks) (sym c.is_stop.ensures ∙ c.if-is_stop.true) c.check_answer.ensures

pub returns-then-is_stop-clause-on : goal.returns-then-is_stop-clause-on
returns-then-is_stop-clause-on g c = g.met.A.Asker.goes_both _ _ _ c.loop-chunk.invariant.on c.in_ok-verdict.ensures.on

pub returns-then-is_stop-clause-content : goal.returns-then-is_stop-clause-content
returns-then-is_stop-clause-content g c = quiet_check c.in-Some.verdict _ c.check_answer.ensures

pub returns-in_err-verdict-clause-ran : goal.returns-in_err-verdict-clause-ran
returns-in_err-verdict-clause-ran g c =
    let p = err_from_is_err_and c.from_residual-in_err-verdict.result c.from_residual-in_err-verdict.ensures.1 in
    rw (p.1, p.2) (check_short c.args.task.now _ (parts_of c.view-key.result) _ c.requires.work (rw c.view-key.ensures at c.view-key.result.spelled) c.deref-chunk-items.result.now _ _ _
    (tried_of _ _ _ (parts_of c.view-key.result) _ _ c.deref-chunk-items.ensures.value c.in_ok-sizes.ensures c.size.ensures c.in_ok-layouts.ensures.told) (split_at _ _ c.loop-chunk-test.true) _ _ _ _
    c.loop-chunk.invariant.missed _ c.in_err-verdict.ensures.asks)

pub returns-in_err-verdict-clause-on : goal.returns-in_err-verdict-clause-on
returns-in_err-verdict-clause-on g c = g.met.A.Asker.goes_both _ _ _ c.loop-chunk.invariant.on c.in_err-verdict.ensures.on

pub returns-clause-ran : goal.returns-clause-ran
returns-clause-ran g c =
    check_missed c.args.task.now _ (parts_of c.view-key.result) _ c.requires.work (rw c.view-key.ensures at c.view-key.result.spelled) _ _ c.deref-chunk-items.result.now _
    (tried_of _ _ _ (parts_of c.view-key.result) _ _ c.deref-chunk-items.ensures.value c.in_ok-sizes.ensures c.size.ensures c.in_ok-layouts.ensures.told)
    (missed_all _ _ (parts_of c.view-key.result) _ _ _ c.loop-chunk-test.false c.loop-chunk.invariant.missed)
