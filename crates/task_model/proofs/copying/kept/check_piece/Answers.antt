use Rattle.std.proofs.lemmas.Result.{err_from_is_err_and}
use Rattle.task_model.proofs.CopyingLemmas.ReadLaws.{reads_piece, reads_refused}
use Rattle.task_model.proofs.copying.kept.check_piece.Goals as goal

pub returns-clause-read : goal.returns-clause-read
returns-clause-read g c = reads_piece _ _ _ _ _ _ _ _ c.in_ok-n.ensures.log c.in_ok-n.ensures.bound.0 c.if-n-eq0.false record { taken = c.update.ensures.taken; holds = c.update.ensures.bytes }

pub returns-in_err-n-clause-read : goal.returns-in_err-n-clause-read
returns-in_err-n-clause-read g c =
    let p = err_from_is_err_and c.from_residual.result c.from_residual.ensures.1 in
    rw (p.1, p.2) (reads_refused _ _ _ _ _ _ c.in_err-n.ensures.log)
