use Rattle.std.proofs.Common.{sym, subst}
use Rattle.journal_model.specs.Beginnings.{MayBegin}
use Rattle.journal_model.specs.declared.opening.Opening.{Opening}
use Rattle.rehearse_command.specs.Rehearsals.{EndsRun, HasRun}
use Rattle.rehearse_command.proofs.Crews.{tell_nothing}
use Rattle.rehearse_command.proofs.rehearsing.run.Goals as goal

pub do_tasks-core-requires-clause-fresh : goal.do_tasks-core-requires-clause-fresh
do_tasks-core-requires-clause-fresh g c = λ κs lives. tell_nothing _ c.args.crew.items c.requires.fresh

pub end_run-requires-clause-may : goal.end_run-requires-clause-may
end_run-requires-clause-may g c = subst MayBegin (sym c.do_tasks-core.ensures.opening) c.requires.may

pub end_run-requires-clause-ran : goal.end_run-requires-clause-ran
end_run-requires-clause-ran g c =
    subst (λ (o : Opening). HasRun o c.do_tasks-core.result.0.journal c.do_tasks-core.result.1) (sym c.do_tasks-core.ensures.opening) c.do_tasks-core.ensures.ran

pub returns : goal.returns
returns g c =
    subst (λ (o : Opening). EndsRun o c.end_run.result.journal.entries c.end_run.result.answers.items c.end_run.result.end) c.do_tasks-core.ensures.opening c.end_run.ensures
