use Rattle.std.proofs.Common.{refl}
use Rattle.std.proofs.lemmas.Result.{err_from_is_err_and}
use Rattle.task_model.proofs.ExportRuns.{name_in_line}
use Rattle.task_model.proofs.PlainRuns.{task_key_sent}
use Rattle.task_run.proofs.NameRuns.{drop_ran, drop_none, change_quiet}
use Rattle.task_run.proofs.exports.drop_export.Goals as goal

pub remove_named-requires-clause-key : goal.remove_named-requires-clause-key
remove_named-requires-clause-key g c = rw c.view-key.ensures (task_key_sent c.args.task.now.key c.requires.task.key_class)

pub remove_named-requires-clause-name : goal.remove_named-requires-clause-name
remove_named-requires-clause-name g c =
    let n = rw c.requires.work at c.requires.task.name_class in
    rw c.view-name.ensures (name_in_line c.args.task.now.name n)

pub returns-clause-ran : goal.returns-clause-ran
returns-clause-ran g c =
    let a = rw (c.view-key.ensures, c.view-name.ensures) at c.in_ok-verdict.ensures.pairs in
    let k = rw c.view-key.ensures at c.in_ok-verdict.ensures.verdict in
    drop_ran _ _ _ _ _ _ _ c.requires.work a k c.change_answer.ensures

pub returns-clause-content : goal.returns-clause-content
returns-clause-content g c = change_quiet _ _ _ refl c.change_answer.ensures

pub returns-in_err-verdict-clause-ran : goal.returns-in_err-verdict-clause-ran
returns-in_err-verdict-clause-ran g c = let p = err_from_is_err_and c.from_residual.result c.from_residual.ensures.1 in rw (p.1, c.in_err-verdict.ensures.pairs) (drop_none _ _ _ _ _ c.requires.work)
