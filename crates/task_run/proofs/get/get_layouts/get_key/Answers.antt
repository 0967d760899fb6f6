use Rattle.std.proofs.Common.{◌∙◌}
use Rattle.std.proofs.lemmas.Result.{err_from_is_err_and}
use Rattle.task_model.proofs.PlainRuns.{task_key_sent}
use Rattle.task_run.proofs.GetLemmas.GetAlls.{ran_from}
use Rattle.task_run.proofs.GetLemmas.GetTasks.{get_nothing_ran}
use Rattle.task_run.proofs.get.get_layouts.get_key.Goals as goal

pub returns-in_err-part-clause-ran : goal.returns-in_err-part-clause-ran
returns-in_err-part-clause-ran g c =
    let p = err_from_is_err_and c.from_residual.result c.from_residual.ensures.1 in
    rw (p.1, p.2) (get_nothing_ran _ _ _ _ _ _ _ c.requires.work)

pub returns-in_err-layouts-clause-ran : goal.returns-in_err-layouts-clause-ran
returns-in_err-layouts-clause-ran g c =
    let p = err_from_is_err_and c.from_residual-in_err-layouts.result c.from_residual-in_err-layouts.ensures.1 in
    rw (p.1, p.2, c.layouts.ensures.pairs) (get_nothing_ran _ _ _ _ _ _ _ c.requires.work)

pub invariant_of-get-clause-sent : goal.invariant_of-get-clause-sent
invariant_of-get-clause-sent g c = rw c.view.ensures (task_key_sent c.args.task.now.key c.requires.task.key_class)

pub returns-clause-ran : goal.returns-clause-ran
returns-clause-ran g c =
    let r = rw c.view.ensures at c.view.result.spelled in
    ran_from _ _ _ _ _ _ _ _ _ _ _ _ _ c.requires.work r c.view-file.ensures (c.view-3.ensures ∙ c.in_ok-layouts.ensures.told) c.layouts.ensures.pairs c.get_from.ensures.ran
