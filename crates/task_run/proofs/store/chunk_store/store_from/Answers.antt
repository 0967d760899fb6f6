use Rattle.std.proofs.Common.{◌∙◌, arith, refl}
use Rattle.std.proofs.lemmas.Result.{err_from_is_err_and}
use Rattle.task_run.proofs.StoreLemmas.ChunkStoreLoops.{storing_none, storing_more, storing_ends, storing_done, known_of}
use Rattle.task_run.proofs.store.chunk_store.store_from.Goals as goal

pub loop-stored-init : goal.loop-stored-init
loop-stored-init g c = record {
  storing = storing_none _ _ _ _ _ _ _ _;
  least = omega arith;
  most = omega (arith, c.count-all.ensures, c.requires.missing);
  notes = refl;
  same = record { task_is = refl; may_note_is = refl; loans_are = refl };
  on = g.met.A.Asker.stays _ c.requires.ready;
  ready = c.requires.ready;
  quiet = refl;
}

pub loop-stored-preserved : goal.loop-stored-preserved
loop-stored-preserved g c =
    let i = c.loop-stored.invariant in
    let h = c.in_ok-store_chunk.ensures in
    let r = c.requires in
    let s = rw c.in-None.is at h.stored in
    let q = rw c.in-None.is at h.causes in
    record {
      storing = storing_more _ _ _ _ _ _ _ _ _ _ _ _ _ (known_of _ _ _ _ c.args.store.chunked c.args.store.sized r.missing r.small) i.storing (omega (arith, c.count-all.ensures, c.loop-stored-test.true)) s;
      least = omega (arith, i.least);
      most = omega (arith, c.loop-stored-test.true);
      notes = h.notes ∙ i.notes;
      same = record { task_is = h.same.task_is ∙ i.same.task_is; may_note_is = h.same.may_note_is ∙ i.same.may_note_is; loans_are = h.same.loans_are ∙ i.same.loans_are };
      on = g.met.A.Asker.goes_both _ _ _ i.on h.on;
      ready = g.met.A.Asker.is_ready _ _ h.on;
      quiet = q.quiet refl ∙ i.quiet;
    }

pub returns-in-Some-clause-stored : goal.returns-in-Some-clause-stored
returns-in-Some-clause-stored g c =
    let i = c.loop-stored.invariant in
    let h = c.in_ok-store_chunk.ensures in
    let r = c.requires in
    let s = rw c.in-Some.is at h.stored in
    storing_ends _ _ _ _ _ _ _ _ _ _ _ _ _ _ _ _ (known_of _ _ _ _ c.args.store.chunked c.args.store.sized r.missing r.small) i.storing (omega (arith, c.count-all.ensures, c.loop-stored-test.true)) s (λ e. cc) (h.notes ∙ i.notes)

pub returns-in_err-store_chunk-clause-stored : goal.returns-in_err-store_chunk-clause-stored
returns-in_err-store_chunk-clause-stored g c =
    let i = c.loop-stored.invariant in
    let h = c.in_err-store_chunk.ensures in
    let r = c.requires in
    let p = err_from_is_err_and c.from_residual.result c.from_residual.ensures.1 in
    rw (p.1, p.2) (storing_ends _ _ _ _ _ _ _ _ _ _ _ _ _ _ _ _ (known_of _ _ _ _ c.args.store.chunked c.args.store.sized r.missing r.small) i.storing (omega (arith, c.count-all.ensures, c.loop-stored-test.true)) h.stored (λ e. cc) (h.notes ∙ i.notes))

pub returns-clause-stored : goal.returns-clause-stored
returns-clause-stored g c =
    let i = c.loop-stored.invariant in
    let h = c.note_chunks.ensures in
    let r = c.requires in
    let n = rw i.notes at h.notes in
    rw h.pairs (storing_done _ _ _ _ _ _ _ _ _ _ _ _ _ _ _ (known_of _ _ _ _ c.args.store.chunked c.args.store.sized r.missing r.small) c.count-all.ensures i.storing i.most c.loop-stored-test.false n)
