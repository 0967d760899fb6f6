use Rattle.std.proofs.Common.{arith}
use Rattle.std.proofs.lemmas.Result.{err_from_is_err_and}
use Rattle.task_run.proofs.StoreLemmas.ChunkStoreLoops.{chunked_by, sized_nothing, sized_without, sized_over, sized_all, sized_missing, missing_least}
use Rattle.task_run.proofs.store.chunk_store.store_missing.Goals as goal

pub returns-then-all-clause-stored : goal.returns-then-all-clause-stored
returns-then-all-clause-stored g c = sized_nothing _ _ _ _ _ _ _ _ _ (chunked_by _ _ _ c.args.store.chunked c.args.store.sized)

pub store_from-requires-clause-missing : goal.store_from-requires-clause-missing
store_from-requires-clause-missing g c =
    let s = rw c.in-Missing.is at c.in_ok-seek.ensures.pairs in
    omega (arith, c.count-all.ensures, missing_least _ _ _ _ _ _ s)

pub returns-in-All-clause-stored : goal.returns-in-All-clause-stored
returns-in-All-clause-stored g c =
    let h = c.in_ok-seek.ensures in
    let s = rw c.in-All.is at h.pairs in
    sized_all _ _ _ _ _ _ _ _ _ _ _ _ _ _ (chunked_by _ _ _ c.args.store.chunked c.args.store.sized) c.count-all.ensures s h.notes c.note_chunks.ensures.pairs c.note_chunks.ensures.notes

pub returns-in-Missing-clause-stored : goal.returns-in-Missing-clause-stored
returns-in-Missing-clause-stored g c =
    let h = c.in_ok-seek.ensures in
    let s = rw c.in-Missing.is at h.pairs in
    sized_missing _ _ _ _ _ _ _ _ _ _ _ _ _ _ _ _ (chunked_by _ _ _ c.args.store.chunked c.args.store.sized) c.count-all.ensures s h.notes c.store_from.ensures.stored

pub returns-in-Over-clause-stored : goal.returns-in-Over-clause-stored
returns-in-Over-clause-stored g c =
    let h = c.in_ok-seek.ensures in
    let s = rw c.in-Over.is at h.pairs in
    sized_over _ _ _ _ _ _ _ _ _ _ _ _ (chunked_by _ _ _ c.args.store.chunked c.args.store.sized) c.count-all.ensures s h.notes

pub returns-in_err-seek-clause-stored : goal.returns-in_err-seek-clause-stored
returns-in_err-seek-clause-stored g c =
    let h = c.in_err-seek.ensures in
    let p = err_from_is_err_and c.from_residual.result c.from_residual.ensures.1 in
    rw (p.1, p.2) (sized_without _ _ _ _ _ _ _ _ _ _ _ _ (chunked_by _ _ _ c.args.store.chunked c.args.store.sized) c.count-all.ensures h.pairs h.notes)
