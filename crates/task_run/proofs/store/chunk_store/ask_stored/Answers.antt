use Rattle.ann_key.specs.KeyRefs.{parts_of, text_of}
use Rattle.task_model.proofs.SentKeys.{chunk_sent}
use Rattle.task_run.proofs.StoreLemmas.ChunkStoreWays.{chunk_from}
use Rattle.task_run.proofs.store.chunk_store.ask_stored.Goals as goal

pub transfer-requires-clause-key : goal.transfer-requires-clause-key
transfer-requires-clause-key g c = rw c.view.ensures (chunk_sent (text_of c.args.store.key) (parts_of c.args.store.key) _ _ _ c.args.store.key.spelled c.args.store.sent c.in_ok-key.ensures)

pub returns-clause-pairs : goal.returns-clause-pairs
returns-clause-pairs g c = chunk_from _ _ _ _ _ _ c.in_ok-key.ensures (rw c.view.ensures at c.transfer.ensures.pairs)
