use Rattle.std.proofs.lemmas.Result.{err_from_is_err_and}
use Rattle.task_run.proofs.StoreLemmas.ChunkStoreWays.{copied_short, copied_fault, copied_missing, copied_without}
use Rattle.task_run.proofs.store.chunk_store.copy_chunk.Goals as goal

pub returns-then-n-to-clause-copied : goal.returns-then-n-to-clause-copied
returns-then-n-to-clause-copied g c =
    let h = rw c.in-Done.is at c.in_ok-n.ensures.copied in
    let own = rw c.in-Done.is at c.in_ok-n.ensures.itself in
    copied_short _ _ _ _ _ _ _ (g.D.Desk.told c.args.desk.now).files (g.D.Desk.told c.copy_out.new.desk).files h own c.if-n-to.true

pub returns-in-Fault-clause-copied : goal.returns-in-Fault-clause-copied
returns-in-Fault-clause-copied g c = copied_fault _ _ _ _ _ _ (g.D.Desk.told c.args.desk.now).files (g.D.Desk.told c.copy_out.new.desk).files (rw c.in-Fault.is at c.in_ok-n.ensures.copied)

pub returns-in-Missing-clause-copied : goal.returns-in-Missing-clause-copied
returns-in-Missing-clause-copied g c = copied_missing _ _ _ _ _ _ (g.D.Desk.told c.args.desk.now).files (g.D.Desk.told c.copy_out.new.desk).files (rw c.in-Missing.is at c.in_ok-n.ensures.copied)

pub returns-in_err-n-clause-copied : goal.returns-in_err-n-clause-copied
returns-in_err-n-clause-copied g c =
    let p = err_from_is_err_and c.from_residual.result c.from_residual.ensures.1 in
    rw (p.1, p.2) (copied_without _ _ _ _ _ _ (g.D.Desk.told c.args.desk.now).files (g.D.Desk.told c.copy_out.new.desk).files _ c.in_err-n.ensures.copied)
