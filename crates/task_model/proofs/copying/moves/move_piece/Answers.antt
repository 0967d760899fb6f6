use Rattle.std.proofs.lemmas.Result.{err_from_is_err_and}
use Rattle.task_model.proofs.CopyingLemmas.CopyLaws.{moves_piece, moves_nothing, moves_refused}
use Rattle.task_model.proofs.copying.moves.move_piece.Goals as goal

pub returns-clause-moved : goal.returns-clause-moved
returns-clause-moved g c = moves_piece _ _ _ _ _ _ _ _ _ c.in_ok-n.ensures.carried c.in_ok-n.ensures.most c.if-n-eq0.false record { taken = c.update.ensures.taken; holds = c.update.ensures.bytes }

pub returns-then-n-eq0-clause-moved : goal.returns-then-n-eq0-clause-moved
returns-then-n-eq0-clause-moved g c = moves_nothing _ _ _ _ _ _ _ _ c.if-n-eq0.true c.in_ok-n.ensures.carried

pub returns-in_err-n-clause-moved : goal.returns-in_err-n-clause-moved
returns-in_err-n-clause-moved g c =
    let p = err_from_is_err_and c.from_residual.result c.from_residual.ensures.1 in
    rw (p.1, p.2) (moves_refused _ _ _ _ _ _ _ c.in_err-n.ensures.carried)
