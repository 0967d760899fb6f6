use Rattle.std.proofs.Common.{◌∙◌, sym, ap}
use Rattle.std.proofs.lemmas.Result.{err_from_is_err_and}
use Rattle.task_model.specs.Names.{part_of}
use Rattle.task_model.proofs.ExportRuns.{name_in_line}
use Rattle.task_model.proofs.FileNames.{fetch_differs}
use Rattle.task_model.proofs.PlainRuns.{task_key_sent}
use Rattle.task_run.proofs.GetLemmas.NamedGets.{get_nothing_ran, taken_ran}
use Rattle.task_run.proofs.get.get_named.get_export.Goals as goal

pub returns-in_err-part-clause-ran : goal.returns-in_err-part-clause-ran
returns-in_err-part-clause-ran g c =
    let p = err_from_is_err_and c.from_residual.result c.from_residual.ensures.1 in
    rw (p.1, p.2) (get_nothing_ran _ _ _ _ _ _ _ c.requires.work)

pub returns-in_err-fetch-clause-ran : goal.returns-in_err-fetch-clause-ran
returns-in_err-fetch-clause-ran g c =
    let p = err_from_is_err_and c.from_residual-in_err-fetch.result c.from_residual-in_err-fetch.ensures.1 in
    rw (p.1, p.2) (get_nothing_ran _ _ _ _ _ _ _ c.requires.work)

pub returns-in_err-verdict-clause-ran : goal.returns-in_err-verdict-clause-ran
returns-in_err-verdict-clause-ran g c =
    let p = err_from_is_err_and c.from_residual-in_err-verdict.result c.from_residual-in_err-verdict.ensures.1 in
    rw (p.1, p.2, c.in_err-verdict.ensures.pairs) (get_nothing_ran _ _ _ _ _ _ _ c.requires.work)

pub transfer_named-requires-clause-key : goal.transfer_named-requires-clause-key
transfer_named-requires-clause-key g c = rw c.view-key.ensures (task_key_sent c.args.task.now.key c.requires.task.key_class)

pub transfer_named-requires-clause-name : goal.transfer_named-requires-clause-name
transfer_named-requires-clause-name g c =
    let n = rw c.requires.work at c.requires.task.name_class in
    rw c.view-name.ensures (name_in_line c.args.task.now.name n)

pub take_whole-requires-clause-differ : goal.take_whole-requires-clause-differ
take_whole-requires-clause-differ g c = λ e.
    fetch_differs c.args.setup.now c.args.turn 1 c.args.task.now.file (sym (c.view-fetch.ensures ∙ c.in_ok-fetch.ensures.name) ∙ e ∙ c.view-part.ensures ∙ c.in_ok-part.ensures ∙ ap part_of c.view-file.ensures)

pub returns-clause-ran : goal.returns-clause-ran
returns-clause-ran g c =
    let r = rw c.view-key.ensures at c.view-key.result.spelled in
    let f = c.view-fetch.ensures ∙ c.in_ok-fetch.ensures.name in
    let p = c.view-part.ensures ∙ c.in_ok-part.ensures ∙ ap part_of c.view-file.ensures in
    let a = rw (c.view-key.ensures, c.view-name.ensures, f) at c.in_ok-verdict.ensures.pairs in
    let k = rw (c.view-key.ensures, f) at c.in_ok-verdict.ensures.verdict in
    let t = rw c.view-file.ensures at c.take_whole.ensures.took in
    taken_ran _ _ _ _ _ _ _ _ _ _ _ _ _ c.requires.work r a k p f t
