use Rattle.std.proofs.Common.{ℕ, subst, Ok, IfSome}
use Rattle.std.proofs.lemmas.Result.{err_from_is_err_and}
use Rattle.ann_outside.specs.Files.{ReadIs}
use Rattle.dir_remote.proofs.CopyLaws.{piece_end}
use Rattle.dir_remote.proofs.TraceLaws.{piece_end_traced, piece_moved_traced, piece_unread_traced, piece_unwritten_traced}
use Rattle.dir_remote.proofs.copying.copy_piece.Goals as goal

pub returns-then-count-eq0-clause-piece : goal.returns-then-count-eq0-clause-piece
returns-then-count-eq0-clause-piece g c =
    let h = c.in_ok-count.ensures in
    let P : ℕ → Type 0 = λ n. IfSome (g.D.Desk.told c.args.desk.now).files (λ fs. ReadIs c.args.from.now c.args.at c.read_at.new.buf fs (Ok n)) in
    piece_end c.args.from.now c.args.to.now c.read_at.new.buf c.args.at (g.D.Desk.told c.args.desk.now).files (g.D.Desk.told c.read_at.new.self).files h.files
    (subst P c.if-count-eq0.true h.told)

pub returns-then-count-eq0-clause-traced : goal.returns-then-count-eq0-clause-traced
returns-then-count-eq0-clause-traced g c = piece_end_traced c.args.from.now c.args.to.now c.read_at.new.buf c.args.at _ _ _ c.if-count-eq0.true c.in_ok-count.ensures.log

pub returns-clause-traced : goal.returns-clause-traced
returns-clause-traced g c =
    piece_moved_traced c.args.from.now c.args.to.now c.read_at.new.buf c.args.at _ _ _ _ c.if-count-eq0.false c.in_ok-count.ensures.bound.0 c.in_ok-count.ensures.log c.in_ok-append.ensures.log

pub returns-in_err-append-clause-traced : goal.returns-in_err-append-clause-traced
returns-in_err-append-clause-traced g c =
    let p = err_from_is_err_and c.from_residual-in_err-append.result c.from_residual-in_err-append.ensures.1 in
    rw (p.1, p.2) (piece_unwritten_traced c.args.from.now c.args.to.now _ _ c.args.at _ _ _ _ c.in_ok-count.ensures.log c.in_err-append.ensures.log)

pub returns-in_err-count-clause-traced : goal.returns-in_err-count-clause-traced
returns-in_err-count-clause-traced g c =
    let p = err_from_is_err_and c.from_residual.result c.from_residual.ensures.1 in
    rw (p.1, p.2) (piece_unread_traced c.args.from.now c.args.to.now c.args.at _ _ _ c.in_err-count.ensures.log)
