use Rattle.std.proofs.Common.{◌∙◌, [], refl}
use Rattle.std.proofs.lemmas.Result.{err_from_is_err_and}
use Rattle.task_run.proofs.GetLemmas.BeginLaws.{refused_quiet}
use Rattle.task_run.proofs.GetLemmas.FetchLaws.{not_made, not_copied, not_removed, is_settled}
use Rattle.ann_outside.specs.declared.file_desk.DeskError.TheVariants as E
use Rattle.task_run.proofs.get.taking.move_in.Goals as goal

pub returns-in-Err-clause-calls : goal.returns-in-Err-clause-calls
returns-in-Err-clause-calls g c = rw c.refused-in-Err.ensures (not_made _ _ _ _ _ _ c.in-Err.ensures.log)

pub returns-in-Fault-clause-calls : goal.returns-in-Fault-clause-calls
returns-in-Fault-clause-calls g c = not_copied _ _ _ _ _ _ _ _ E.Failed c.in-Ok.ensures.log (rw c.in-Fault.is at c.in_ok-copy_in-in-Ok.ensures.moved)

pub returns-in-Missing-clause-calls : goal.returns-in-Missing-clause-calls
returns-in-Missing-clause-calls g c = not_copied _ _ _ _ _ _ _ _ E.Missing c.in-Ok.ensures.log (rw c.in-Missing.is at c.in_ok-copy_in-in-Ok.ensures.moved)

pub returns-in_err-copy_in-in-Ok-clause-calls : goal.returns-in_err-copy_in-in-Ok-clause-calls
returns-in_err-copy_in-in-Ok-clause-calls g c =
    let p = err_from_is_err_and c.from_residual.result c.from_residual.ensures.1 in
    rw (p.1, p.2) (not_copied _ _ _ _ _ _ _ _ E.NoMemory c.in-Ok.ensures.log c.in_err-copy_in-in-Ok.ensures.moved)

pub returns-in-Err-remove-clause-calls : goal.returns-in-Err-remove-clause-calls
returns-in-Err-remove-clause-calls g c = rw c.refused.ensures (not_removed _ _ _ _ _ _ _ _ _ _ _ c.in-Ok.ensures.log (rw c.in-Done.is at c.in_ok-copy_in-in-Ok.ensures.moved) c.in-Err-remove.ensures.log)

pub returns-in-Ok-remove-clause-calls : goal.returns-in-Ok-remove-clause-calls
returns-in-Ok-remove-clause-calls g c =
    let s = c.settle.ensures.calls in
    let m = rw c.in-Done.is at c.in_ok-copy_in-in-Ok.ensures.moved in
    is_settled _ _ _ _ _ _ _ _ _ _ _ _ s.0 _ c.in-Ok.ensures.log m c.in-Ok-remove.ensures.log s.1 s.2 (c.finish.ensures.said _ _ (m.checked.holds _ [] c.new-checker.ensures))

pub returns-in-Err-remove-clause-causes : goal.returns-in-Err-remove-clause-causes
returns-in-Err-remove-clause-causes g c =
    let q = rw c.in-Done.is at c.in_ok-copy_in-in-Ok.ensures.causes in
    rw c.refused.ensures (refused_quiet _ _ _ _ (q.quiet refl ∙ c.in-Ok.ensures.causes.done) c.in-Err-remove.ensures.causes)
