use Rattle.std.proofs.Common.{arith, length}
use Rattle.std.proofs.lemmas.Result.{err_from_is_err_and}
use Rattle.task_model.proofs.CopyingLemmas.CopyLaws.{carries_piece, carries_refused_read, carries_refused_append}
use Rattle.task_model.proofs.CopyingLemmas.FillLaws.{fills_end, fills_piece, fills_unread, fills_unwritten}
use Rattle.task_model.proofs.copying.moves.carry_piece.Goals as goal

pub returns-clause-carried : goal.returns-clause-carried
returns-clause-carried g c = carries_piece _ _ _ _ _ _ _ _ c.in_ok-n.ensures.log c.in_ok-append.ensures.log c.if-n-eq0.false

pub returns-in_err-append-clause-carried : goal.returns-in_err-append-clause-carried
returns-in_err-append-clause-carried g c =
    let p = err_from_is_err_and c.from_residual-in_err-append.result c.from_residual-in_err-append.ensures.1 in
    rw (p.1, p.2) (carries_refused_append _ _ _ _ _ _ _ _ c.in_ok-n.ensures.log c.in_err-append.ensures.log)

pub returns-in_err-n-clause-carried : goal.returns-in_err-n-clause-carried
returns-in_err-n-clause-carried g c =
    let p = err_from_is_err_and c.from_residual.result c.from_residual.ensures.1 in
    rw (p.1, p.2) (carries_refused_read _ _ _ _ _ _ c.in_err-n.ensures.log)

pub returns-then-n-eq0-clause-filled : goal.returns-then-n-eq0-clause-filled
returns-then-n-eq0-clause-filled g c = fills_end _ _ _ _ 0 _ _ _ c.if-n-eq0.true c.in_ok-n.ensures.files c.in_ok-n.ensures.told

pub returns-clause-filled : goal.returns-clause-filled
returns-clause-filled g c =
    fills_piece _ _ c.read_at.new.buf _ 0 _ _ _ _ c.in_ok-n.ensures.files c.if-n-eq0.false c.in_ok-n.ensures.bound.0 c.in_ok-n.ensures.told c.in_ok-append.ensures.files

pub returns-in_err-append-clause-filled : goal.returns-in_err-append-clause-filled
returns-in_err-append-clause-filled g c =
    let p = err_from_is_err_and c.from_residual-in_err-append.result c.from_residual-in_err-append.ensures.1 in
    rw (p.1, p.2) (fills_unwritten _ _ c.read_at.new.buf _ _ c.in_ok-n.n _ _ _ _ c.in_ok-n.ensures.files (omega (arith, c.in_ok-n.ensures.bound.0)) c.in_ok-n.ensures.told c.in_err-append.ensures.files)

pub returns-in_err-n-clause-filled : goal.returns-in_err-n-clause-filled
returns-in_err-n-clause-filled g c =
    let p = err_from_is_err_and c.from_residual.result c.from_residual.ensures.1 in
    rw (p.1, p.2) (fills_unread _ _ _ (length c.args.buffer.now) p.0 _ _ c.in_err-n.ensures.files)
