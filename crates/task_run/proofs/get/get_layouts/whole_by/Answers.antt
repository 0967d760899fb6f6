use Rattle.std.proofs.lemmas.Result.{err_from_is_err_and}
use Rattle.task_run.proofs.GetLemmas.GetWholes.{whole_nothing, whole_taken}
use Rattle.task_run.proofs.get.get_layouts.whole_by.Goals as goal

pub returns-in_err-verdict-clause-ran : goal.returns-in_err-verdict-clause-ran
returns-in_err-verdict-clause-ran g c = λ first f few.
    let p = err_from_is_err_and c.from_residual.result c.from_residual.ensures.1 in
    rw (p.1, p.2, c.in_err-verdict.ensures.pairs) (whole_nothing _ _ _ _ _ _ _ _)

pub returns-clause-ran : goal.returns-clause-ran
returns-clause-ran g c = λ first f few.
    let a = rw f at c.in_ok-verdict.ensures.pairs in
    let k = rw f at c.in_ok-verdict.ensures.verdict in
    whole_taken c.args.get.setup.now _ _ _ _ _ first _ _ _ _ _ c.in_ok-verdict.verdict _ few c.args.get.key.spelled a k c.args.get.named f c.take_whole.ensures.took
