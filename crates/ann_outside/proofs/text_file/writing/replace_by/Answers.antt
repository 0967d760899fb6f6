use Rattle.std.proofs.Common.{Err, ap}
use Rattle.std.proofs.lemmas.Result.{err_from_is_err_and}
use Rattle.ann_outside.proofs.TextFileLemmas.WriteLaws.{replace_unmade, replace_cut, replace_named}
use Rattle.ann_outside.proofs.text_file.writing.replace_by.Goals as goal

pub returns-in_err-create-clause-calls : goal.returns-in_err-create-clause-calls
returns-in_err-create-clause-calls g c =
    let p = err_from_is_err_and c.from_residual.result c.from_residual.ensures.1 in
    rw (p.1, p.2) (replace_unmade _ c.args.name.now c.args.fresh.now c.args.text.now c.requires _ _ (λ e. c.in_err-create.ensures.found (ap Err e)) c.in_err-create.ensures.log)

pub returns-in_err-append_all-clause-calls : goal.returns-in_err-append_all-clause-calls
returns-in_err-append_all-clause-calls g c =
    let p = err_from_is_err_and c.from_residual-in_err-append_all.result c.from_residual-in_err-append_all.ensures.1 in
    rw (p.1, p.2) (replace_cut _ c.args.name.now c.args.fresh.now c.args.text.now c.requires _ c.in_ok-create.ensures.log _ _ c.in_err-append_all.ensures.calls)

pub returns-clause-calls : goal.returns-clause-calls
returns-clause-calls g c =
    replace_named _ c.args.name.now c.args.fresh.now c.args.text.now c.requires _ c.in_ok-create.ensures.log _ c.in_ok-append_all.ensures.calls _ c.rename.result c.rename.ensures.log
