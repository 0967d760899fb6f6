use Rattle.std.proofs.Common.{◌∙◌, sym}
use Rattle.task_run.proofs.GetLemmas.FetchLaws.{not_sized, wrong_size, is_moved}
use Rattle.task_run.proofs.get.taking.fetched.Goals as goal

pub returns-in-Err-clause-calls : goal.returns-in-Err-clause-calls
returns-in-Err-clause-calls g c = rw c.refused.ensures (not_sized _ _ _ _ _ c.in-Err.ensures.log)

pub returns-else-is_size-clause-calls : goal.returns-else-is_size-clause-calls
returns-else-is_size-clause-calls g c =
    let d = c.discard.ensures.calls in
    let h = sym c.is_size.ensures ∙ c.if-is_size.false in
    wrong_size _ _ _ _ _ _ d.0 _ c.in-Ok.ensures.log (rw c.size-in-Ok.ensures at h) d.1 d.2

pub returns-then-is_size-clause-calls : goal.returns-then-is_size-clause-calls
returns-then-is_size-clause-calls g c =
    let h = sym c.is_size.ensures ∙ c.if-is_size.true in
    is_moved _ _ _ _ _ _ _ c.in-Ok.ensures.log (rw c.size-in-Ok.ensures at h) c.move_in.ensures.calls
