use Rattle.std.proofs.Common.{◌∙◌, refl, arith}
use Rattle.std.specs.Prelude.{Ok}
use Rattle.std.proofs.lemmas.Result.{err_from_is_err_and}
use Rattle.journal_model.specs.declared.answer.Answer.TheVariants.{Got}
use Rattle.task_model.proofs.Causes.{from_nothing}
use Rattle.task_run.proofs.GetLemmas.BeginLaws.{causes_behind}
use Rattle.task_run.proofs.GetLemmas.GetAlls.{tries_none, tries_skip, tries_more, tries_end, tries_all, at_layout, sized_at, test_is, test_differs}
use Rattle.task_run.proofs.get.get_layouts.try_layouts.Goals as goal
use Rattle.task_run.proofs.get.get_layouts.try_layouts.Goals.{then-chunks-count+in_ok-went+in-Failed, else-chunks-count}
use Rattle.task_model.proofs.Texts.{same_on as same_both}

pub loop-i-init : goal.loop-i-init
loop-i-init g c = record {
  so_far = tries_none _ _ _ _ _ _ _ _ c.requires.first;
  on = g.met.A.Asker.stays c.args.asker.now c.requires.ready;
  notes = refl;
  same = record { task_is = refl; may_note_is = refl; loans_are = refl };
  causes = from_nothing _ (Ok Got) refl;
}

pub count-requires : goal.count-requires
count-requires g c = sized_at c.args.layouts.now c.loop-i.i c.requires.sizes (omega arith)

pub invariant_of-layout-clause-chunked : goal.invariant_of-layout-clause-chunked
invariant_of-layout-clause-chunked g c = sized_at c.args.layouts.now c.loop-i.i c.requires.sizes (omega arith)

pub returns-in_default-clause-ran : goal.returns-in_default-clause-ran
returns-in_default-clause-ran g c =
    tries_end _ _ _ _ _ _ _ _ _ _ _ _ _ _ _ _ _ c.requires.size (at_layout c.args.layouts.now c.loop-i.i (omega arith)) (test_is _ _ _ c.if-chunks-count.true c.count.ensures) c.loop-i.invariant.so_far c.in_ok-went.ensures.ran (λ e. c.in_default.not-Failed cc)

pub returns-in_default-clause-on : goal.returns-in_default-clause-on
returns-in_default-clause-on g c = g.met.A.Asker.goes_both c.args.asker.now c.loop-i.asker c.get_layout.new.asker c.loop-i.invariant.on c.get_layout.ensures.on

pub returns-in_err-went-clause-ran : goal.returns-in_err-went-clause-ran
returns-in_err-went-clause-ran g c =
    let p = err_from_is_err_and c.from_residual.result c.from_residual.ensures.1 in
    rw (p.1, p.2) (tries_end _ _ _ _ _ _ _ _ _ _ _ _ _ _ _ _ _ c.requires.size (at_layout c.args.layouts.now c.loop-i.i (omega arith)) (test_is _ _ _ c.if-chunks-count.true c.count.ensures) c.loop-i.invariant.so_far c.in_err-went.ensures.ran (λ e. cc))

pub returns-in_err-went-clause-on : goal.returns-in_err-went-clause-on
returns-in_err-went-clause-on g c = g.met.A.Asker.goes_both c.args.asker.now c.loop-i.asker c.get_layout.new.asker c.loop-i.invariant.on c.get_layout.ensures.on

pub loop-i-preserved : goal.loop-i-preserved
loop-i-preserved g c =
    elim c.if-chunks-count.branch [
      | then-chunks-count+in_ok-went+in-Failed w ↦
          let r = rw w.in-Failed.is at w.in_ok-went.ensures.ran in
          let k = rw w.in-Failed.is at w.in_ok-went.ensures.causes in
          rw (w.asked-is, w.asker-is, w.desk-is) record {
            so_far = tries_more _ _ _ _ _ _ _ _ _ _ _ _ _ _ _ _ c.requires.size (at_layout c.args.layouts.now c.loop-i.i (omega arith)) (test_is _ _ _ w.if-chunks-count.true c.count.ensures) c.loop-i.invariant.so_far r;
            on = g.met.A.Asker.goes_both c.args.asker.now c.loop-i.asker w.get_layout.new.asker c.loop-i.invariant.on w.get_layout.ensures.on;
            notes = w.get_layout.ensures.notes ∙ c.loop-i.invariant.notes;
            same = same_both c.loop-i.invariant.same w.get_layout.ensures.same;
            causes = causes_behind _ _ _ (Ok Got) _ c.loop-i.invariant.causes refl k;
          }
      | else-chunks-count w ↦
          rw (w.asked-is, w.asker-is, w.desk-is) record {
            so_far = tries_skip _ _ _ _ _ _ _ _ _ _ _ _ _ c.requires.size (at_layout c.args.layouts.now c.loop-i.i (omega arith)) (test_differs _ _ _ w.if-chunks-count.false c.count.ensures) c.loop-i.invariant.so_far;
            on = c.loop-i.invariant.on;
            notes = c.loop-i.invariant.notes;
            same = c.loop-i.invariant.same;
            causes = c.loop-i.invariant.causes;
          }
    ]

pub returns-clause-ran : goal.returns-clause-ran
returns-clause-ran g c = tries_all _ _ _ _ _ _ _ _ _ _ _ (omega arith) c.loop-i.invariant.so_far
