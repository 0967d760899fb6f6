use Rattle.std.proofs.Common.{ℕ, ap, subst, ◌∙◌}
use Rattle.journal_model.specs.declared.verdict.Why.TheVariants.{Closed}
use Rattle.journal_model.specs.Legality.{may_stop}
use Rattle.child_link.specs.Alone.{Closes}
use Rattle.run_starts.proofs.Stinting.{may_close}
use Rattle.run_starts.proofs.serving.serve.Goals as goal

pub close_child-requires-clause-idle : goal.close_child-requires-clause-idle
close_child-requires-clause-idle g c =
    ap (λ (k : ℕ). may_stop c.work_over.new.core.journal k Closed) c.work_over.ensures.link.same_ear.0
    ∙ may_close c.work_over.new.core.journal c.args.link.now.ear.child c.work_over.ensures.can.rests.idle c.work_over.ensures.can.rests.rest

pub returns-clause-serves : goal.returns-clause-serves
returns-clause-serves g c = record {
  mid = c.work_over.new.core.journal;
  worked = c.work_over.ensures.worked;
  can = c.work_over.ensures.can;
  through = c.work_over.ensures.through;
  closes = subst (λ (k : ℕ). Closes 0 k c.work_over.new.core.journal c.close_child.new.core.journal) c.work_over.ensures.link.same_ear.0 c.close_child.ensures.closes;
}
