use Rattle.std.proofs.Common.{◌∙◌, sym}
use Rattle.std.proofs.lemmas.Result.{err_from_is_err_and}
use Rattle.std.specs.Prelude.{nat_lt, length}
use Rattle.std.specs.Str.{is_utf8}
use Rattle.task_model.proofs.ExportRuns.{name_in_line}
use Rattle.task_model.proofs.PlainRuns.{task_key_sent}
use Rattle.task_run.proofs.StoreLemmas.StoreRuns.{named_in_line, sized_by}
use Rattle.task_run.proofs.StoreLemmas.ExportStores.{store_refused_ran, store_unasked_ran, store_other_size_ran, store_once_ran}
use Rattle.task_run.proofs.store.export_store.store_export.Goals as goal

pub returns-in-Err-clause-ran : goal.returns-in-Err-clause-ran
returns-in-Err-clause-ran g c = λ setup layouts.
    let l = rw c.view-file.ensures at c.in-Err.ensures.log in
    rw c.refused.ensures (store_refused_ran _ _ _ _ _ _ _ _ c.requires.work l)

pub returns-in_err-verdict-in-Ok-clause-ran : goal.returns-in_err-verdict-in-Ok-clause-ran
returns-in_err-verdict-in-Ok-clause-ran g c = λ setup layouts.
    let l = rw c.view-file.ensures at c.in-Ok.ensures.log in
    let p = err_from_is_err_and c.from_residual.result c.from_residual.ensures.1 in
    rw (p.1, p.2, c.in_err-verdict-in-Ok.ensures.pairs) (store_unasked_ran _ _ _ _ _ _ _ _ _ c.requires.work l)

pub returns-else-is_size-clause-ran : goal.returns-else-is_size-clause-ran
returns-else-is_size-clause-ran g c = λ setup layouts.
    let l = rw c.view-file.ensures at c.in-Ok.ensures.log in
    let r = rw c.view-key.ensures at c.view-key.result.spelled in
    store_other_size_ran _ _ _ _ _ _ _ _ _ c.requires.work (sized_by c.args.task.now.key _ _ r c.size-in-Ok.ensures) (sym c.is_size.ensures ∙ c.if-is_size.false) l

pub returns-in_ok-verdict-in-Ok-clause-ran : goal.returns-in_ok-verdict-in-Ok-clause-ran
returns-in_ok-verdict-in-Ok-clause-ran g c = λ setup layouts.
    let l = rw c.view-file.ensures at c.in-Ok.ensures.log in
    let r = rw c.view-key.ensures at c.view-key.result.spelled in
    let a = rw (c.view-key.ensures, c.view-file.ensures, c.view-name.ensures) at c.in_ok-verdict-in-Ok.ensures.pairs in
    store_once_ran _ _ _ _ _ _ _ _ _ _ _ _ c.requires.work (sized_by c.args.task.now.key _ _ r c.size-in-Ok.ensures) (sym c.is_size.ensures ∙ c.if-is_size.true) l a
    (rw (c.view-key.ensures, c.view-file.ensures) at c.in_ok-verdict-in-Ok.ensures.verdict) c.change_answer.ensures

pub transfer_named-requires-clause-key : goal.transfer_named-requires-clause-key
transfer_named-requires-clause-key g c = rw c.view-key.ensures (task_key_sent c.args.task.now.key c.requires.task.key_class)

pub transfer_named-requires-clause-file : goal.transfer_named-requires-clause-file
transfer_named-requires-clause-file g c =
    let f = rw c.requires.work at c.requires.task.file_class in
    let file = c.args.task.now.file in
    rw c.view-file.ensures (named_in_line file (nat_lt 0 (length file)) (is_utf8 file) f)

pub transfer_named-requires-clause-name : goal.transfer_named-requires-clause-name
transfer_named-requires-clause-name g c =
    let n = rw c.requires.work at c.requires.task.name_class in
    rw c.view-name.ensures (name_in_line c.args.task.now.name n)
