use Rattle.std.proofs.Common.{◌∙◌, ap, sym, subst, arith}
use Rattle.std.specs.Prelude.{IfOk}
use Rattle.annex_model.specs.Lines.{has_newline}
use Rattle.crew_work.specs.Worker.Works.{AreTasks}
use Rattle.crew_work.proofs.WorkerLemmas.Across.{all_tasks}
use Rattle.journal_model.specs.declared.opening.Opening.{Opening}
use Rattle.run_answers.specs.Answering.{AreAllAnswered}
use Rattle.run_starts.specs.declared.plan.Plan.{Plan}
use Rattle.run_and_check.specs.Check.Preparings.{AnswersAs}
use Rattle.run_and_check.proofs.CheckLemmas.Checked.{has_checked, whole_answered}
use Rattle.run_and_check.proofs.check.checking.do_task.Goals as goal

pub run_alone-ran-requires-clause-handed : goal.run_alone-ran-requires-clause-handed
run_alone-ran-requires-clause-handed g c = λ κs lives.
    let is = c.requires.ready.3 in
    let same = c.view.ensures ∙ is.tasks in
    record {
      tasks = (sym same, subst AreTasks (sym same) (all_tasks c.args.ready.core.opening.tasks c.requires.may.tasks));
      folder = ap (λ (p : Plan). has_newline p.setup.work) is.plan;
    }

pub run_alone-ran-requires-clause-may : goal.run_alone-ran-requires-clause-may
run_alone-ran-requires-clause-may g c = λ κs lives.
    let is = c.requires.ready.3 in
    let one = ap (λ (p : Plan). p.starts) is.plan in
    let room = c.requires.room in
    record { empty = is.empty; starts = (omega (arith, one), omega (arith, one)); desks = (omega arith, omega arith); none = c.requires.none; room = omega (arith, one, room) }

pub answers_after-answers-requires : goal.answers_after-answers-requires
answers_after-answers-requires g c =
    let journal = c.run_alone-ran.new.core.journal in
    let ran = c.run_alone-ran.ensures.ran in
    subst (λ (o : Opening). IfOk c.run_alone-ran.result (λ _. AreAllAnswered o journal)) (sym c.run_alone-ran.ensures.core.opening)
    (whole_answered c.run_alone-ran.result c.args.ready.core.opening journal ran.legal ran.calm.idle c.run_alone-ran.ensures.whole)

pub returns : goal.returns
returns g c clock program key stamp at is =
    has_checked c.run_alone-ran.result clock program key stamp c.args.ready _ _ c.run_alone-ran.new.core.journal _ _ _
    at is c.journal_of.ensures c.run_alone-ran.ensures.ran c.run_alone-ran.ensures.last
    (subst (λ (o : Opening). AnswersAs o c.run_alone-ran.new.core.journal c.run_alone-ran.result c.answers_after-answers.result.0.items c.answers_after-answers.result.1) c.run_alone-ran.ensures.core.opening c.answers_after-answers.ensures)
    c.run_alone-ran.ensures.leaves
