use Rattle.std.proofs.Common.{◌∙◌, sym, subst}
use Rattle.std.specs.Prelude.{All}
use Rattle.crew_work.specs.Worker.Works.{AreTasks}
use Rattle.rehearse_command.specs.Rehearsals.{IsQuiet}
use Rattle.rehearse_command.proofs.Faultless.{faultless}
use Rattle.rehearse_command.proofs.Running.{has_run, run_of}
use Rattle.rehearse_command.proofs.rehearsing.do_tasks.Goals as goal
use Rattle.crew_work.proofs.WorkerLemmas.Across.{all_tasks}

pub run_jobs-bench-requires-clause-tasks : goal.run_jobs-bench-requires-clause-tasks
run_jobs-bench-requires-clause-tasks g c κs within =
    let same = c.view.ensures ∙ c.requires.ready.tasks_are in
    (sym same, subst AreTasks (sym same) (all_tasks c.args.ready.core.opening.tasks c.requires.may.tasks))

pub returns-clause-ran : goal.returns-clause-ran
returns-clause-ran g c =
    let o = c.args.ready.core.opening in
    let journal = c.run_jobs-bench.result.0.core.journal in
    let ran = c.run_jobs-bench.ensures.ran in
    let leaves = c.run_jobs-bench.ensures.leaves in
    let plan = c.args.ready.plan in
    has_run o journal c.run_jobs-bench.result.1
    (run_of o plan.setup plan.offers plan.starts journal _ _ c.requires.ready.setup_is c.requires.ready.offers c.requires.ready.starts c.requires.fresh
    (faultless o journal _ _ (g.P.Programs.told c.args.programs.now).faults (g.P.Programs.told c.run_jobs-bench.new.programs).faults ran.legal leaves.wired
    (subst (All IsQuiet) c.deref.ensures.value c.look_at.ensures) leaves.faults (c.requires.sound.0 c.args.programs.now) (c.requires.sound.0 c.run_jobs-bench.new.programs))
    ran) c.run_jobs-bench.ensures.whole
