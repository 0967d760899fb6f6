use Rattle.std.proofs.Common.{◌∙◌, arith}
use Rattle.std.proofs.lemmas.Result.{err_from_is_err_and}
use Rattle.task_run.proofs.StoreLemmas.ChunkStoreLoops.{seeking_more, seeks_without, seeks_missing, seeks_over}
use Rattle.task_run.proofs.store.chunk_store.seek.Goals as goal

pub loop-there-preserved : goal.loop-there-preserved
loop-there-preserved g c =
    let i = c.loop-there.invariant in
    let h = c.in_ok-verdict.ensures in
    record {
      seeking = seeking_more _ _ _ _ _ _ _ _ i.seeking c.loop-there-test.true h.pairs c.in-There.ensures.said;
      most = omega (arith, c.loop-there-test.true);
      notes = h.notes ∙ i.notes;
      same = record { task_is = h.same.task_is ∙ i.same.task_is; may_note_is = h.same.may_note_is ∙ i.same.may_note_is; loans_are = h.same.loans_are ∙ i.same.loans_are };
      on = g.met.A.Asker.goes_both _ _ _ i.on h.on;
      ready = g.met.A.Asker.is_ready _ _ h.on;
    }

pub returns-in-Missing-clause-pairs : goal.returns-in-Missing-clause-pairs
returns-in-Missing-clause-pairs g c = seeks_missing _ _ _ _ _ _ _ _ c.loop-there.invariant.seeking c.loop-there-test.true c.in_ok-verdict.ensures.pairs c.in-Missing.ensures.said

pub returns-in-Over-clause-pairs : goal.returns-in-Over-clause-pairs
returns-in-Over-clause-pairs g c = seeks_over _ _ _ _ _ _ _ _ _ c.loop-there.invariant.seeking c.loop-there-test.true c.in_ok-verdict.ensures.pairs c.in-Over.ensures.said.0

pub returns-in_err-verdict-clause-pairs : goal.returns-in_err-verdict-clause-pairs
returns-in_err-verdict-clause-pairs g c =
    let p = err_from_is_err_and c.from_residual.result c.from_residual.ensures.1 in
    rw (p.1, p.2) (seeks_without _ _ _ _ _ _ _ _ c.loop-there.invariant.seeking c.in_err-verdict.ensures.pairs)
