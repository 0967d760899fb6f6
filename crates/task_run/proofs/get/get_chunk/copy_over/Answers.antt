use Rattle.ann_outside.specs.declared.file_desk.DeskError.TheVariants as E
use Rattle.std.proofs.Common.{refl}
use Rattle.std.proofs.lemmas.Result.{err_from_is_err_and}
use Rattle.task_run.proofs.GetLemmas.BeginLaws.{quiet_refused}
use Rattle.task_run.proofs.GetLemmas.ChunkLaws.{over_uncopied, over_unremoved, over_came}
use Rattle.task_run.proofs.get.get_chunk.copy_over.Goals as goal

pub returns-in-Ok-clause-copied : goal.returns-in-Ok-clause-copied
returns-in-Ok-clause-copied g c = over_came _ _ _ _ _ _ _ _ _ (rw c.in-Done.is at c.in_ok-copy_in.ensures.moved) c.in-Ok.ensures.log

pub returns-in-Err-clause-copied : goal.returns-in-Err-clause-copied
returns-in-Err-clause-copied g c =
    rw (c.over.ensures, c.refused.ensures) (over_unremoved _ _ _ _ _ _ _ _ _ _ (rw c.in-Done.is at c.in_ok-copy_in.ensures.moved) c.in-Err.ensures.log)

pub returns-in-Fault-clause-copied : goal.returns-in-Fault-clause-copied
returns-in-Fault-clause-copied g c = over_uncopied _ _ _ _ _ _ _ E.Failed (rw c.in-Fault.is at c.in_ok-copy_in.ensures.moved)

pub returns-in-Missing-clause-copied : goal.returns-in-Missing-clause-copied
returns-in-Missing-clause-copied g c = over_uncopied _ _ _ _ _ _ _ E.Missing (rw c.in-Missing.is at c.in_ok-copy_in.ensures.moved)

pub returns-in_err-copy_in-clause-copied : goal.returns-in_err-copy_in-clause-copied
returns-in_err-copy_in-clause-copied g c =
    let p = err_from_is_err_and c.from_residual.result c.from_residual.ensures.1 in
    rw (p.1, p.2) (over_uncopied _ _ _ _ _ _ _ E.NoMemory c.in_err-copy_in.ensures.moved)

pub returns-in-Err-clause-causes : goal.returns-in-Err-clause-causes
returns-in-Err-clause-causes g c =
    let q = rw c.in-Done.is at c.in_ok-copy_in.ensures.causes in
    rw (c.over.ensures, c.refused.ensures) (quiet_refused _ _ _ _ (q.quiet refl) c.in-Err.ensures.causes)
