use Rattle.std.proofs.lemmas.Result.{err_from_is_err_and}
use Rattle.task_run.proofs.StoreLemmas.ChunkStoreWays.{not_whole, not_asked, settled_chunk}
use Rattle.task_run.proofs.store.chunk_store.store_copied.Goals as goal

pub returns-in_ok-verdict-in-None-clause-stored : goal.returns-in_ok-verdict-in-None-clause-stored
returns-in_ok-verdict-in-None-clause-stored g c =
    let h = rw c.in-None.is at c.in_ok-copy_chunk.ensures.copied in
    settled_chunk _ _ _ _ _ _ _ _ _ _ _ _ h c.in_ok-verdict-in-None.ensures.pairs c.in_ok-verdict-in-None.ensures.verdict c.settle_chunk.ensures.settled

pub returns-in_err-verdict-in-None-clause-stored : goal.returns-in_err-verdict-in-None-clause-stored
returns-in_err-verdict-in-None-clause-stored g c =
    let h = rw c.in-None.is at c.in_ok-copy_chunk.ensures.copied in
    let p = err_from_is_err_and c.from_residual-in_err-verdict-in-None.result c.from_residual-in_err-verdict-in-None.ensures.1 in
    rw (p.1, p.2) (not_asked _ _ _ _ _ _ _ _ _ _ h c.in_err-verdict-in-None.ensures.pairs)

pub returns-in-Some-clause-stored : goal.returns-in-Some-clause-stored
returns-in-Some-clause-stored g c = not_whole _ _ _ _ _ _ _ _ _ (rw c.in-Some.is at c.in_ok-copy_chunk.ensures.copied)

pub returns-in_err-copy_chunk-clause-stored : goal.returns-in_err-copy_chunk-clause-stored
returns-in_err-copy_chunk-clause-stored g c =
    let p = err_from_is_err_and c.from_residual.result c.from_residual.ensures.1 in
    rw (p.1, p.2) (not_whole _ _ _ _ _ _ _ _ _ c.in_err-copy_chunk.ensures.copied)
