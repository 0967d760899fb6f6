use Rattle.std.proofs.Common.{refl, sym, ap, subst, ◌∙◌}
use Rattle.child_link.proofs.Roles.{moved_both, same_both}
use Rattle.journal_model.specs.Journal.{is_started}
use Rattle.child_link.proofs.Linked.{link_on, link_ear}
use Rattle.journal_model.specs.Wires.{may_hear}
use Rattle.child_link.specs.Asks.{HasBegun}
use Rattle.child_link.specs.declared.events.Listening.TheVariants.{Rest, Over}
use Rattle.child_link.proofs.Hearing.{begun_so}
use Rattle.child_link.proofs.Replying.{started_then}
use Rattle.child_link.proofs.lone.Lone.hear_first.Goals as goal

pub hear-requires-clause-turn : goal.hear-requires-clause-turn
hear-requires-clause-turn g c = ap (may_hear (g.D.Door.view c.listen.new.door).seen) (sym c.child-child.ensures) ∙ c.in-Read.ensures.listening.1

pub returns-in-Rest-clause-moved : goal.returns-in-Rest-clause-moved
returns-in-Rest-clause-moved g c = link_on c.args.self.now.ear c.args.self.now.mouth c.args.self.now.one_child c.listen.ensures.passed

pub returns-in-Rest-clause-begun : goal.returns-in-Rest-clause-begun
returns-in-Rest-clause-begun g c = λ _.
    subst (HasBegun (g.D.Door.view c.listen.new.door).seen) c.child-child.ensures
    (begun_so (g.D.Door.view c.args.door.now).opening (g.D.Door.view c.args.door.now).number c.child-child.result (g.D.Door.view c.listen.new.door).seen Rest
    (started_then c.child-child.result c.listen.ensures.passed (ap (is_started (g.D.Door.view c.args.door.now).seen) c.child-child.ensures ∙ c.requires.started)) refl c.in-Rest.ensures.listening)

pub returns-in-Over-clause-moved : goal.returns-in-Over-clause-moved
returns-in-Over-clause-moved g c = link_on c.args.self.now.ear c.args.self.now.mouth c.args.self.now.one_child c.listen.ensures.passed

pub returns-in-Over-clause-begun : goal.returns-in-Over-clause-begun
returns-in-Over-clause-begun g c = λ _.
    subst (HasBegun (g.D.Door.view c.listen.new.door).seen) c.child-child.ensures
    (begun_so (g.D.Door.view c.args.door.now).opening (g.D.Door.view c.args.door.now).number c.child-child.result (g.D.Door.view c.listen.new.door).seen Over
    (started_then c.child-child.result c.listen.ensures.passed (ap (is_started (g.D.Door.view c.args.door.now).seen) c.child-child.ensures ∙ c.requires.started)) refl c.in-Over.ensures.listening)

pub returns-in-Read-hear-clause-moved : goal.returns-in-Read-hear-clause-moved
returns-in-Read-hear-clause-moved g c = moved_both c.listen.ensures.door.number c.listen.ensures.door.alone (link_on c.args.self.now.ear c.args.self.now.mouth c.args.self.now.one_child c.listen.ensures.passed)
    (link_ear c.args.self.now.ear c.hear.new.self c.args.self.now.mouth c.args.self.now.one_child c.hear.ensures.same.0 c.hear.ensures.moved c.hear.ensures.turned)

pub returns-in-Read-hear-clause-door : goal.returns-in-Read-hear-clause-door
returns-in-Read-hear-clause-door g c = same_both c.listen.ensures.door c.hear.ensures.door

pub returns-in-Fed-clause-moved : goal.returns-in-Fed-clause-moved
returns-in-Fed-clause-moved g c = moved_both c.listen.ensures.door.number c.listen.ensures.door.alone (link_on c.args.self.now.ear c.args.self.now.mouth c.args.self.now.one_child c.listen.ensures.passed)
    (link_ear c.args.self.now.ear c.hear.new.self c.args.self.now.mouth c.args.self.now.one_child c.hear.ensures.same.0 c.hear.ensures.moved c.hear.ensures.turned)

pub returns-in-Fed-clause-door : goal.returns-in-Fed-clause-door
returns-in-Fed-clause-door g c = same_both c.listen.ensures.door c.hear.ensures.door

pub returns-in-Over-hear-clause-moved : goal.returns-in-Over-hear-clause-moved
returns-in-Over-hear-clause-moved g c = moved_both c.listen.ensures.door.number c.listen.ensures.door.alone (link_on c.args.self.now.ear c.args.self.now.mouth c.args.self.now.one_child c.listen.ensures.passed)
    (link_ear c.args.self.now.ear c.hear.new.self c.args.self.now.mouth c.args.self.now.one_child c.hear.ensures.same.0 c.hear.ensures.moved c.hear.ensures.turned)

pub returns-in-Over-hear-clause-door : goal.returns-in-Over-hear-clause-door
returns-in-Over-hear-clause-door g c = same_both c.listen.ensures.door c.hear.ensures.door
