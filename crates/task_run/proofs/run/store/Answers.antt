use Rattle.task_run.proofs.AllRuns.{from_plain, in_chunks, is_whole}
use Rattle.task_run.proofs.run.store.Goals as goal

pub store_chunks-requires-clause-chunked : goal.store_chunks-requires-clause-chunked
store_chunks-requires-clause-chunked g c = in_chunks c.args.setup.now c.args.task.now _ c.if-is_chunked.true c.is_chunked.ensures

pub returns-else-is_chunked-clause-ran : goal.returns-else-is_chunked-clause-ran
returns-else-is_chunked-clause-ran g c =
    from_plain _ _ _ _ _ _ _ _ _ _ c.requires.work (is_whole c.args.setup.now c.args.task.now _ c.if-is_chunked.false c.is_chunked.ensures) c.store_whole.ensures.ran c.store_whole.ensures.notes
