use Rattle.std.proofs.Common.{◌∙◌, sym}
use Rattle.std.proofs.lemmas.Result.{err_from_is_err_and}
use Rattle.std.specs.Prelude.{nat_lt, length}
use Rattle.std.specs.Str.{is_utf8}
use Rattle.task_model.proofs.PlainRuns.{task_key_sent}
use Rattle.task_run.proofs.StoreLemmas.StoreRuns.{store_refused_ran, store_unasked_ran, store_other_size_ran, store_once_ran, named_in_line, or_memory, sized_by}
use Rattle.task_run.proofs.store.store.store_whole.Goals as goal

pub returns-in-Err-clause-ran : goal.returns-in-Err-clause-ran
returns-in-Err-clause-ran g c =
    let l = rw c.view-file.ensures at c.in-Err.ensures.log in
    rw c.refused.ensures (store_refused_ran _ _ _ _ _ _ c.requires.work l)

pub returns-in_err-verdict-in-Ok-clause-ran : goal.returns-in_err-verdict-in-Ok-clause-ran
returns-in_err-verdict-in-Ok-clause-ran g c =
    let l = rw c.view-file.ensures at c.in-Ok.ensures.log in
    let p = err_from_is_err_and c.from_residual.result c.from_residual.ensures.1 in
    rw (p.1, p.2, c.in_err-verdict-in-Ok.ensures.pairs) (store_unasked_ran _ _ _ _ _ _ _ c.requires.work l)

pub returns-else-is_size-clause-ran : goal.returns-else-is_size-clause-ran
returns-else-is_size-clause-ran g c =
    let l = rw c.view-file.ensures at c.in-Ok.ensures.log in
    let r = rw c.view-key.ensures at c.view-key.result.spelled in
    store_other_size_ran _ _ _ _ _ _ _ c.requires.work (sized_by c.args.task.now.key _ _ r c.size-in-Ok.ensures) (sym c.is_size.ensures ∙ c.if-is_size.false) l

pub returns-in_ok-verdict-in-Ok-clause-ran : goal.returns-in_ok-verdict-in-Ok-clause-ran
returns-in_ok-verdict-in-Ok-clause-ran g c =
    let l = rw c.view-file.ensures at c.in-Ok.ensures.log in
    let r = rw c.view-key.ensures at c.view-key.result.spelled in
    let a = rw (c.view-key.ensures, c.view-file.ensures) at c.in_ok-verdict-in-Ok.ensures.pairs in
    or_memory _ _ _ _ _ _ _ _ c.change_answer.ensures
    (store_once_ran _ _ _ _ _ _ _ _ _ c.requires.work (sized_by c.args.task.now.key _ _ r c.size-in-Ok.ensures) (sym c.is_size.ensures ∙ c.if-is_size.true) l a
    (rw (c.view-key.ensures, c.view-file.ensures) at c.in_ok-verdict-in-Ok.ensures.verdict))

pub transfer-requires-clause-key : goal.transfer-requires-clause-key
transfer-requires-clause-key g c = rw c.view-key.ensures (task_key_sent c.args.task.now.key c.requires.task.key_class)

pub transfer-requires-clause-file : goal.transfer-requires-clause-file
transfer-requires-clause-file g c =
    let f = rw c.requires.work at c.requires.task.file_class in
    let file = c.args.task.now.file in
    rw c.view-file.ensures (named_in_line file (nat_lt 0 (length file)) (is_utf8 file) f)
