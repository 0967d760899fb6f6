use Rattle.std.proofs.Common.{◌∙◌, sym, arith}
use Rattle.std.specs.Prelude.{◌+◌}
use Rattle.std.proofs.lemmas.Result.{err_from_is_err_and}
use Rattle.task_model.proofs.FileNames.{fetch_differs}
use Rattle.task_run.proofs.GetLemmas.GetWholes.{whole_nothing}
use Rattle.task_run.proofs.get.get_layouts.get_whole.Goals as goal

pub returns-then-asked-eq18446744073709551615-clause-ran : goal.returns-then-asked-eq18446744073709551615-clause-ran
returns-then-asked-eq18446744073709551615-clause-ran g c = whole_nothing _ _ _ _ _ _ _ _

pub returns-in_err-fetch-clause-ran : goal.returns-in_err-fetch-clause-ran
returns-in_err-fetch-clause-ran g c =
    let p = err_from_is_err_and c.from_residual.result c.from_residual.ensures.1 in
    rw (p.1, p.2) (whole_nothing _ _ _ _ _ _ _ _)

pub whole_by-requires-clause-differ : goal.whole_by-requires-clause-differ
whole_by-requires-clause-differ g c = λ e. fetch_differs c.args.get.setup.now c.args.get.turn (c.args.asked + 1) c.args.get.file.now (sym (c.view.ensures ∙ c.in_ok-fetch.ensures.name) ∙ e ∙ c.args.get.named)

pub returns-clause-ran : goal.returns-clause-ran
returns-clause-ran g c = c.whole_by.ensures.ran c.args.asked (c.view.ensures ∙ c.in_ok-fetch.ensures.name) (omega arith)
