use Rattle.std.proofs.Common.{ap, ◌∙◌}
use Rattle.journal_model.specs.Journal.{is_tagged}
use Rattle.child_life.proofs.start.starting.greet_child.Goals as goal

pub returns-in-None-clause-tells : goal.returns-in-None-clause-tells
returns-in-None-clause-tells g c = (
  c.greet_link.ensures.link.same_ear.0,
  (c.in-None.ensures.comes, c.tagged-tagged.ensures ∙ ap (is_tagged c.greet_link.new.core.journal) (c.child.ensures ∙ c.greet_link.ensures.link.same_ear.0)),
)
