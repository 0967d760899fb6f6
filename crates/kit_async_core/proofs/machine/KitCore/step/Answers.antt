use Rattle.std.proofs.Common.{◌∙◌, subst}
use Rattle.std.specs.Prelude.{IfOk}
use Rattle.kit_async_model.specs.Books.{CoreValue}
use Rattle.kit_async_core.specs.Steps.{Comes}
use Rattle.kit_async_core.proofs.Steps.{book_apart, book_kept, step_comes}
use Rattle.kit_async_core.proofs.machine.KitCore.step.Goals as goal

pub step-requires-clause-apart : goal.step-requires-clause-apart
step-requires-clause-apart c = book_apart c.self.inside.setup c.self.inside.book c.self.invariant.0

pub invariant_of-self : goal.invariant_of-self
invariant_of-self c = (
  book_kept c.self.inside.setup c.self.inside.book c.step.new.self c.args.by c.args.event c.step.result c.self.invariant.0 c.step.ensures.ok c.step.ensures.err,
  c.step.ensures.kept ∙ c.self.invariant.1,
)

pub returns-clause-ok : goal.returns-clause-ok
returns-clause-ok c =
    subst (λ (v : CoreValue). IfOk c.step.result (Comes v.setup v.journal c.step.new.self.journal c.args.by c.args.event)) c.self.view_is
    (step_comes c.self.inside.setup c.self.inside.book c.step.new.self c.args.by c.args.event c.step.result c.self.invariant.0 c.step.ensures.ok)
