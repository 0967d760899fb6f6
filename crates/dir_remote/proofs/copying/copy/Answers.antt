use Rattle.std.proofs.Common.{◌≡◌, ◌∙◌, ℕ, arith, refl, subst, Ok, Err}
use Rattle.std.proofs.lemmas.Result.{err_from_is_err_and}
use Rattle.ann_outside.specs.Files.{WhereTold}
use Rattle.dir_remote.specs.Copies.{PieceDoes}
use Rattle.dir_remote.specs.Traces.{PieceTraces, Traced}
use Rattle.dir_remote.proofs.CauseLaws.{copy_idle, copy_ended, copy_broken}
use Rattle.dir_remote.proofs.CopyLaws.{create_others, create_refused, copying_begins, copying_goes_on, copy_others, copy_ends, copy_refused, others_cleared, refused_cleared}
use Rattle.ann_outside.specs.Files.{OthersStay}
use Rattle.ann_outside.proofs.Across.{told_refl}
use Rattle.dir_remote.specs.Copies.{Spares}
use Rattle.dir_remote.proofs.SpareLaws.{unmade_spares, free_on, free_spares, made_free}
use Rattle.dir_remote.proofs.TraceLaws.{traced_none, copy_unmade_traced, copy_begins, copy_goes_on, copy_ends_traced, copy_breaks_traced}
use Rattle.ann_outside.specs.declared.file_desk.DeskError.TheVariants.{NoMemory}
use Rattle.dir_remote.proofs.copying.copy.Goals as goal

pub returns-in_err-make-clause-causes : goal.returns-in_err-make-clause-causes
returns-in_err-make-clause-causes g c =
    let p = err_from_is_err_and c.from_residual.result c.from_residual.ensures.1 in
    rw (p.1, p.2) (copy_broken c.args.alone _ _ _ _ _ refl c.in_err-make.ensures.causes c.in_err-make.ensures.apart (omega arith) (omega arith) (λ t. refl))

pub returns-in_err-make-clause-others : goal.returns-in_err-make-clause-others
returns-in_err-make-clause-others g c =
    create_others c.args.to.now (Err _) (g.D.Desk.told c.args.desk.now).files (g.D.Desk.told c.make.new.desk).files c.in_err-make.ensures.files

pub returns-in_err-make-clause-copied : goal.returns-in_err-make-clause-copied
returns-in_err-make-clause-copied g c =
    let p = err_from_is_err_and c.from_residual.result c.from_residual.ensures.1 in
    rw (p.1, p.2) (create_refused c.args.from.now c.args.to.now _ (g.D.Desk.told c.args.desk.now).files (g.D.Desk.told c.make.new.desk).files c.in_err-make.ensures.files)

pub returns-in_err-make-clause-traced : goal.returns-in_err-make-clause-traced
returns-in_err-make-clause-traced g c =
    let p = err_from_is_err_and c.from_residual.result c.from_residual.ensures.1 in
    rw (p.1, p.2) (copy_unmade_traced c.args.alone c.args.from.now c.args.to.now _ _ _ c.in_err-make.ensures.log)

pub returns-in_err-make-clause-spared : goal.returns-in_err-make-clause-spared
returns-in_err-make-clause-spared g c =
    let p = err_from_is_err_and c.from_residual.result c.from_residual.ensures.1 in
    rw (p.1, p.2) (λ alone. unmade_spares c.args.to.now _ (g.D.Desk.told c.args.desk.now).files (g.D.Desk.told c.make.new.desk).files (c.in_err-make.ensures.alone alone))

pub returns-in-Ok-eq0-clause-spared : goal.returns-in-Ok-eq0-clause-spared
returns-in-Ok-eq0-clause-spared g c = λ alone.
    free_on c.args.to.now (OthersStay (λ other. other ≡ c.args.to.now)) (g.D.Desk.told c.args.desk.now).files (g.D.Desk.told c.loop-buffer.desk).files (g.D.Desk.told c.copy_piece.new.desk).files
    (c.loop-buffer.invariant.free alone) c.in-Ok-eq0.ensures.others

pub returns-in-Err-clause-spared : goal.returns-in-Err-clause-spared
returns-in-Err-clause-spared g c =
    rw c.give_up.ensures.same
    (λ alone. free_spares c.args.to.now c.in-Err.error (g.D.Desk.told c.args.desk.now).files (g.D.Desk.told c.give_up.new.desk).files
    (free_on c.args.to.now (OthersStay (λ other. other ≡ c.args.to.now)) (g.D.Desk.told c.args.desk.now).files (g.D.Desk.told c.copy_piece.new.desk).files (g.D.Desk.told c.give_up.new.desk).files
    (free_on c.args.to.now (OthersStay (λ other. other ≡ c.args.to.now)) (g.D.Desk.told c.args.desk.now).files (g.D.Desk.told c.loop-buffer.desk).files (g.D.Desk.told c.copy_piece.new.desk).files
    (c.loop-buffer.invariant.free alone) c.in-Err.ensures.others)
    c.give_up.ensures.others))

pub returns-in_default-clause-spared : goal.returns-in_default-clause-spared
returns-in_default-clause-spared g c = λ alone. told_refl (Spares c.args.to.now (Err NoMemory)) (g.D.Desk.told c.args.desk.now).files (λ x there. refl)

pub loop-buffer-init : goal.loop-buffer-init
loop-buffer-init g c = record {
  copying = copying_begins c.args.from.now c.args.to.now (g.D.Desk.told c.args.desk.now).files (g.D.Desk.told c.make.new.desk).files c.in_ok-make.ensures.files;
  tracing = copy_begins c.args.from.now c.args.to.now _ _ c.in_ok-make.ensures.log;
  free = λ alone. made_free c.args.to.now (g.D.Desk.told c.args.desk.now).files (g.D.Desk.told c.make.new.desk).files (c.in_ok-make.ensures.alone alone);
  counts = c.in_ok-make.ensures.causes.done;
  buffer = c.in-Ok.ensures.len;
  fits = omega arith;
}

pub returns-in-Ok-eq0-clause-causes : goal.returns-in-Ok-eq0-clause-causes
returns-in-Ok-eq0-clause-causes g c =
    copy_ended c.args.alone (g.D.Desk.told c.args.desk.now).counts (g.D.Desk.told c.loop-buffer.desk).counts (g.D.Desk.told c.copy_piece.new.desk).counts c.in-Ok-eq0.field-0 c.loop-buffer.invariant.counts c.in-Ok-eq0.ensures.causes

pub returns-in-Ok-eq0-clause-others : goal.returns-in-Ok-eq0-clause-others
returns-in-Ok-eq0-clause-others g c =
    copy_others c.args.from.now c.args.to.now c.loop-buffer.at (g.D.Desk.told c.args.desk.now).files (g.D.Desk.told c.loop-buffer.desk).files (g.D.Desk.told c.copy_piece.new.desk).files c.loop-buffer.invariant.copying c.in-Ok-eq0.ensures.others

pub returns-in-Ok-eq0-clause-copied : goal.returns-in-Ok-eq0-clause-copied
returns-in-Ok-eq0-clause-copied g c =
    let P : ℕ → Type 0 = λ n. WhereTold (g.D.Desk.told c.loop-buffer.desk).files (g.D.Desk.told c.copy_piece.new.desk).files (PieceDoes c.args.from.now c.args.to.now c.loop-buffer.at (Ok n)) in
    copy_ends c.args.from.now c.args.to.now c.loop-buffer.at (g.D.Desk.told c.args.desk.now).files (g.D.Desk.told c.loop-buffer.desk).files (g.D.Desk.told c.copy_piece.new.desk).files c.loop-buffer.invariant.copying
    (subst P c.in-Ok-eq0.field-0-test c.in-Ok-eq0.ensures.piece)

pub returns-in-Ok-eq0-clause-traced : goal.returns-in-Ok-eq0-clause-traced
returns-in-Ok-eq0-clause-traced g c =
    let P : ℕ → Type 0 = λ n. Traced (PieceTraces c.args.from.now c.args.to.now c.loop-buffer.at (Ok n)) (g.D.Desk.told c.loop-buffer.desk).log (g.D.Desk.told c.copy_piece.new.desk).log in
    copy_ends_traced c.args.alone c.args.from.now c.args.to.now c.loop-buffer.at _ _ _ c.loop-buffer.invariant.tracing (subst P c.in-Ok-eq0.field-0-test c.in-Ok-eq0.ensures.traced)

pub loop-buffer-preserved : goal.loop-buffer-preserved
loop-buffer-preserved g c =
    let h = c.in-Ok-copy_piece.ensures in
    record {
      copying = copying_goes_on c.args.from.now c.args.to.now c.loop-buffer.at c.in-Ok-copy_piece.count (g.D.Desk.told c.args.desk.now).files (g.D.Desk.told c.loop-buffer.desk).files (g.D.Desk.told c.copy_piece.new.desk).files c.loop-buffer.invariant.copying h.piece h.others;
      tracing = copy_goes_on c.args.from.now c.args.to.now c.loop-buffer.at c.in-Ok-copy_piece.count _ _ _ c.in-Ok-copy_piece.count-test.1 c.loop-buffer.invariant.tracing h.traced;
      free = λ alone. free_on c.args.to.now (OthersStay (λ other. other ≡ c.args.to.now)) (g.D.Desk.told c.args.desk.now).files (g.D.Desk.told c.loop-buffer.desk).files (g.D.Desk.told c.copy_piece.new.desk).files
          (c.loop-buffer.invariant.free alone) h.others;
      counts = h.causes.done ∙ c.loop-buffer.invariant.counts;
      buffer = c.loop-buffer.invariant.buffer;
      fits = h.place;
    }

pub returns-in-Err-clause-causes : goal.returns-in-Err-clause-causes
returns-in-Err-clause-causes g c =
    let h = c.in-Err.ensures in
    let k = c.give_up.ensures in
    rw k.same (copy_broken c.args.alone (g.D.Desk.told c.args.desk.now).counts (g.D.Desk.told c.loop-buffer.desk).counts (g.D.Desk.told c.copy_piece.new.desk).counts (g.D.Desk.told c.give_up.new.desk).counts c.in-Err.error
    c.loop-buffer.invariant.counts h.causes h.apart k.later k.missing k.calm)

pub returns-in-Err-clause-others : goal.returns-in-Err-clause-others
returns-in-Err-clause-others g c =
    others_cleared c.args.to.now (g.D.Desk.told c.args.desk.now).files (g.D.Desk.told c.copy_piece.new.desk).files (g.D.Desk.told c.give_up.new.desk).files
    (copy_others c.args.from.now c.args.to.now c.loop-buffer.at (g.D.Desk.told c.args.desk.now).files (g.D.Desk.told c.loop-buffer.desk).files (g.D.Desk.told c.copy_piece.new.desk).files c.loop-buffer.invariant.copying c.in-Err.ensures.others)
    c.give_up.ensures.others

pub returns-in-Err-clause-copied : goal.returns-in-Err-clause-copied
returns-in-Err-clause-copied g c =
    rw c.give_up.ensures.same
    (refused_cleared c.args.from.now c.args.to.now c.in-Err.error (g.D.Desk.told c.args.desk.now).files (g.D.Desk.told c.copy_piece.new.desk).files (g.D.Desk.told c.give_up.new.desk).files
    (copy_refused c.args.from.now c.args.to.now c.loop-buffer.at c.in-Err.error (g.D.Desk.told c.args.desk.now).files (g.D.Desk.told c.loop-buffer.desk).files (g.D.Desk.told c.copy_piece.new.desk).files c.loop-buffer.invariant.copying c.in-Err.ensures.piece)
    c.give_up.ensures.others)

pub returns-in-Err-clause-traced : goal.returns-in-Err-clause-traced
returns-in-Err-clause-traced g c =
    rw c.give_up.ensures.same
    (copy_breaks_traced c.args.alone c.args.from.now c.args.to.now c.loop-buffer.at c.in-Err.error _ _ _ _ c.loop-buffer.invariant.tracing c.in-Err.ensures.traced c.give_up.ensures.traced)

pub returns-in_default-clause-causes : goal.returns-in_default-clause-causes
returns-in_default-clause-causes g c = copy_idle _ _

pub returns-in_default-clause-traced : goal.returns-in_default-clause-traced
returns-in_default-clause-traced g c = traced_none _ _ tt
