use Rattle.std.proofs.Common.{◌∙◌, map, refl, sym, subst}
use Rattle.std.proofs.lemmas.List.{length-map}
use Rattle.journal_model.specs.declared.opening.Opening.{Opening}
use Rattle.run_starts.specs.Rounds.{IsWhole}
use Rattle.crew_work.specs.Worker.Works.{AreTasks}
use Rattle.run_answers.specs.Answering.{AreAllAnswered}
use Rattle.run_answers.proofs.Answered.{all_answered}
use Rattle.run_and_check.proofs.RunLemmas.Leaving.{leaves_named, ok_err}
use Rattle.run_and_check.proofs.RunLemmas.Origins.{origins_stay}
use Rattle.run_and_check.proofs.RunLemmas.Working.{is_worked, ends_finished, ends_wanting}
use Rattle.ann_outside.proofs.TextFileLemmas.Naming.{names_none}
use Rattle.run_and_check.proofs.run.rounds.do_all.Goals as goal
use Rattle.crew_work.proofs.WorkerLemmas.Across.{all_tasks}

pub run_jobs-bench-requires-clause-tasks : goal.run_jobs-bench-requires-clause-tasks
run_jobs-bench-requires-clause-tasks g c κs within =
    let same = c.view.ensures ∙ c.requires.prepared.tasks in
    (sym same, subst AreTasks (sym same) (all_tasks c.args.ready.core.opening.tasks c.requires.may.tasks))

pub finish-finished-requires : goal.finish-finished-requires
finish-finished-requires g c =
    let journal = c.run_jobs-bench.result.0.core.journal in
    let ran = c.run_jobs-bench.ensures.ran in
    subst (λ (o : Opening). AreAllAnswered o journal) (sym c.run_jobs-bench.ensures.core.opening) (all_answered c.args.ready.core.opening journal ran.legal ran.calm.idle (subst (IsWhole c.args.ready.core.opening journal) c.in-Ok.is c.run_jobs-bench.ensures.whole))

pub returns-in-Ok-clause-ends : goal.returns-in-Ok-clause-ends
returns-in-Ok-clause-ends g c =
    let words = c.args.setting.now.words.now in
    let o = c.args.ready.core.opening in
    let crew = c.run_jobs-bench.result.0.desks in
    let journal = c.run_jobs-bench.result.0.core.journal in
    let told = (g.D.Desk.told c.args.desk.now).files in
    let value = g.D.Desk.told in
    let table = value c.finish-finished.new.desk in
    let before = map g.D.Desk.told c.args.crew.items in
    let after = map g.D.Desk.told crew.items in
    let workers = map value crew.items in
    ends_finished words told table o c.run_jobs-bench.result.0.core.opening workers journal c.journal_of.result.entries c.finish-finished.result.answers.items c.finish-finished.result.end
    c.run_jobs-bench.ensures.core.opening c.journal_of.ensures
    (is_worked words o workers journal before after c.args.ready.plan.setup c.args.ready.plan.offers c.args.ready.plan.starts
    (length-map c.args.crew.items _ ∙ sym c.args.crew.ok.0 ∙ c.requires.crew, length-map crew.items value ∙ sym crew.ok.0 ∙ c.run_jobs-bench.ensures.desks ∙ c.requires.crew) c.requires.fresh
    refl c.requires.prepared.setup c.requires.prepared.offers c.requires.prepared.starts c.run_jobs-bench.ensures.ran)
    (subst (IsWhole o journal) c.in-Ok.is c.run_jobs-bench.ensures.whole) c.finish-finished.ensures.finishes

pub returns-in-Ok-clause-leaves : goal.returns-in-Ok-clause-leaves
returns-in-Ok-clause-leaves g c =
    leaves_named (λ err. ok_err c.run_jobs-bench.result.1 c.in-Ok.field-0 c.in-Ok.is err) c.journal_of.ensures c.requires.prepared.program c.run_jobs-bench.ensures.leaves

pub returns-clause-ends : goal.returns-clause-ends
returns-clause-ends g c =
    let words = c.args.setting.now.words.now in
    let o = c.args.ready.core.opening in
    let crew = c.run_jobs-bench.result.0.desks in
    let journal = c.run_jobs-bench.result.0.core.journal in
    let told = (g.D.Desk.told c.args.desk.now).files in
    let value = g.D.Desk.told in
    let table = value c.args.desk.now in
    let before = map g.D.Desk.told c.args.crew.items in
    let after = map g.D.Desk.told crew.items in
    let workers = map value crew.items in
    ends_wanting words told table o workers journal c.journal_of-in-Err.result.entries c.new.result.items c.journal_of-in-Err.ensures c.new.ensures.items refl
    (is_worked words o workers journal before after c.args.ready.plan.setup c.args.ready.plan.offers c.args.ready.plan.starts
    (length-map c.args.crew.items _ ∙ sym c.args.crew.ok.0 ∙ c.requires.crew, length-map crew.items value ∙ sym crew.ok.0 ∙ c.run_jobs-bench.ensures.desks ∙ c.requires.crew) c.requires.fresh
    refl c.requires.prepared.setup c.requires.prepared.offers c.requires.prepared.starts c.run_jobs-bench.ensures.ran)

pub returns-clause-leaves : goal.returns-clause-leaves
returns-clause-leaves g c = leaves_named (λ err. refl) c.journal_of-in-Err.ensures c.requires.prepared.program c.run_jobs-bench.ensures.leaves

pub returns-clause-calls : goal.returns-clause-calls
returns-clause-calls g c = names_none refl

pub returns-in-Ok-clause-origins : goal.returns-in-Ok-clause-origins
returns-in-Ok-clause-origins g c =
    origins_stay g.D.Desk.told c.args.ready.core.opening c.args.ready.plan.setup c.args.ready.plan.starts c.run_jobs-bench.result.0.core.journal c.args.crew.items c.run_jobs-bench.result.0.desks.items
    c.run_jobs-bench.ensures.ran.did

pub returns-clause-origins : goal.returns-clause-origins
returns-clause-origins g c =
    origins_stay g.D.Desk.told c.args.ready.core.opening c.args.ready.plan.setup c.args.ready.plan.starts c.run_jobs-bench.result.0.core.journal c.args.crew.items c.run_jobs-bench.result.0.desks.items
    c.run_jobs-bench.ensures.ran.did
