use Rattle.std.proofs.lemmas.Result.{err_from_is_err_and}
use Rattle.task_run.proofs.StoreLemmas.ChunkStoreWays.{not_begun_chunk, range_rises}
use Rattle.task_run.proofs.store.chunk_store.store_chunk.Goals as goal

pub returns-in_err-name-clause-stored : goal.returns-in_err-name-clause-stored
returns-in_err-name-clause-stored g c =
    let p = err_from_is_err_and c.from_residual.result c.from_residual.ensures.1 in
    rw (p.1, p.2) (not_begun_chunk _ _ _ _ _ _ _ _)

pub store_copied-requires-clause-range : goal.store_copied-requires-clause-range
store_copied-requires-clause-range g c = rw c.range-from.ensures (range_rises _ _ _ c.requires.first c.requires.last c.args.store.chunked)
