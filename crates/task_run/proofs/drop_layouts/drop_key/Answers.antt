use Rattle.ann_key.specs.KeyRefs.{parts_of}
use Rattle.std.proofs.lemmas.Result.{err_from_is_err_and}
use Rattle.task_model.proofs.Texts.{same_on}
use Rattle.task_model.proofs.PlainRuns.{task_key_sent}
use Rattle.task_run.proofs.CheckRuns.{tried_of, split_at}
use Rattle.task_run.proofs.DropRuns.{removed_nothing, removed_next, removed_all, drop_nothing, drop_all, drop_short, drop_unnoted, drop_ended, quiet_drop}
use Rattle.task_run.proofs.drop_layouts.drop_key.Goals as goal

pub returns-in_err-layouts-clause-ran : goal.returns-in_err-layouts-clause-ran
returns-in_err-layouts-clause-ran g c =
    let p = err_from_is_err_and c.from_residual.result c.from_residual.ensures.1 in
    rw (p.1, p.2, c.layouts.ensures.pairs, c.layouts.ensures.notes) (drop_nothing c.args.task.now _ (parts_of c.view-key.result) _ c.requires.work (rw c.view-key.ensures at c.view-key.result.spelled) _ _ _)

pub returns-in_err-sizes-clause-ran : goal.returns-in_err-sizes-clause-ran
returns-in_err-sizes-clause-ran g c =
    let p = err_from_is_err_and c.from_residual-in_err-sizes.result c.from_residual-in_err-sizes.ensures.1 in
    rw (p.1, p.2, c.layouts.ensures.pairs, c.layouts.ensures.notes) (drop_nothing c.args.task.now _ (parts_of c.view-key.result) _ c.requires.work (rw c.view-key.ensures at c.view-key.result.spelled) _ _ _)

pub loop-chunk-init : goal.loop-chunk-init
loop-chunk-init g c = record {
  removed = rw (c.layouts.ensures.pairs, c.layouts.ensures.notes) (removed_nothing _ _ _);
  same = c.layouts.ensures.same;
  on = c.layouts.ensures.on;
}

pub ask_layout-requires-clause-sent : goal.ask_layout-requires-clause-sent
ask_layout-requires-clause-sent g c = rw c.view-key.ensures (task_key_sent c.args.task.now.key c.requires.task.key_class)

pub loop-chunk-preserved : goal.loop-chunk-preserved
loop-chunk-preserved g c =
    let i = c.loop-chunk.invariant in
    let e = c.in_ok-ask_layout.ensures in
    let n = c.in_ok-note_none-in-None.ensures in
    record {
      removed = rw n.pairs (removed_next _ _ _ _ _ _ (parts_of c.view-key.result) _ _ c.loop-chunk-test.true i.removed (rw c.in-None.is at e.asks) (rw e.notes at n.notes));
      same = same_on i.same (same_on e.same n.same);
      on = g.met.A.Asker.goes_both _ _ _ i.on (g.met.A.Asker.goes_both _ _ _ e.on n.on);
    }

pub returns-in_err-note_none-in-None-clause-ran : goal.returns-in_err-note_none-in-None-clause-ran
returns-in_err-note_none-in-None-clause-ran g c =
    let p = err_from_is_err_and c.from_residual-in_err-note_none-in-None.result c.from_residual-in_err-note_none-in-None.ensures.1 in
    rw (p.1, p.2, c.in_err-note_none-in-None.ensures.pairs, c.in_err-note_none-in-None.ensures.notes, c.in_ok-ask_layout.ensures.notes)
    (drop_unnoted c.args.task.now _ (parts_of c.view-key.result) _ c.requires.work (rw c.view-key.ensures at c.view-key.result.spelled) c.deref-chunk-items.result.now _ _ _
    (tried_of _ _ _ (parts_of c.view-key.result) _ _ c.deref-chunk-items.ensures.value c.in_ok-sizes.ensures c.size.ensures c.in_ok-layouts.ensures.told) (split_at _ _ c.loop-chunk-test.true) _ _ _ _ _
    c.loop-chunk.invariant.removed _ (rw c.in-None.is at c.in_ok-ask_layout.ensures.asks))

pub returns-in_err-note_none-in-None-clause-on : goal.returns-in_err-note_none-in-None-clause-on
returns-in_err-note_none-in-None-clause-on g c = g.met.A.Asker.goes_both _ _ _ c.loop-chunk.invariant.on (g.met.A.Asker.goes_both _ _ _ c.in_ok-ask_layout.ensures.on c.in_err-note_none-in-None.ensures.on)

pub returns-in-Some-clause-ran : goal.returns-in-Some-clause-ran
returns-in-Some-clause-ran g c =
    rw c.in_ok-ask_layout.ensures.notes
    (drop_ended c.args.task.now _ (parts_of c.view-key.result) _ c.requires.work (rw c.view-key.ensures at c.view-key.result.spelled) c.deref-chunk-items.result.now _ _ _
    (tried_of _ _ _ (parts_of c.view-key.result) _ _ c.deref-chunk-items.ensures.value c.in_ok-sizes.ensures c.size.ensures c.in_ok-layouts.ensures.told) (split_at _ _ c.loop-chunk-test.true) _ _ _ _ _
    c.loop-chunk.invariant.removed c.in-Some.verdict _ (rw c.in-Some.is at c.in_ok-ask_layout.ensures.asks) c.undone_answer.ensures)

pub returns-in-Some-clause-on : goal.returns-in-Some-clause-on
returns-in-Some-clause-on g c = g.met.A.Asker.goes_both _ _ _ c.loop-chunk.invariant.on c.in_ok-ask_layout.ensures.on

pub returns-in-Some-clause-content : goal.returns-in-Some-clause-content
returns-in-Some-clause-content g c = quiet_drop c.in-Some.verdict _ c.undone_answer.ensures

pub returns-in_err-ask_layout-clause-ran : goal.returns-in_err-ask_layout-clause-ran
returns-in_err-ask_layout-clause-ran g c =
    let p = err_from_is_err_and c.from_residual-in_err-ask_layout.result c.from_residual-in_err-ask_layout.ensures.1 in
    rw (p.1, p.2, c.in_err-ask_layout.ensures.notes)
    (drop_short c.args.task.now _ (parts_of c.view-key.result) _ c.requires.work (rw c.view-key.ensures at c.view-key.result.spelled) c.deref-chunk-items.result.now _ _ _
    (tried_of _ _ _ (parts_of c.view-key.result) _ _ c.deref-chunk-items.ensures.value c.in_ok-sizes.ensures c.size.ensures c.in_ok-layouts.ensures.told) (split_at _ _ c.loop-chunk-test.true) _ _ _ _ _
    c.loop-chunk.invariant.removed _ c.in_err-ask_layout.ensures.asks)

pub returns-in_err-ask_layout-clause-on : goal.returns-in_err-ask_layout-clause-on
returns-in_err-ask_layout-clause-on g c = g.met.A.Asker.goes_both _ _ _ c.loop-chunk.invariant.on c.in_err-ask_layout.ensures.on

pub returns-clause-ran : goal.returns-clause-ran
returns-clause-ran g c =
    drop_all c.args.task.now _ (parts_of c.view-key.result) _ c.requires.work (rw c.view-key.ensures at c.view-key.result.spelled) _ _ _ _ c.deref-chunk-items.result.now
    (tried_of _ _ _ (parts_of c.view-key.result) _ _ c.deref-chunk-items.ensures.value c.in_ok-sizes.ensures c.size.ensures c.in_ok-layouts.ensures.told)
    (removed_all _ _ _ _ (parts_of c.view-key.result) _ _ c.loop-chunk-test.false c.loop-chunk.invariant.removed)
