use Rattle.std.proofs.Common.{refl, subst, List}
use Rattle.host_core.specs.declared.event.Event.TheVariants.{Listen}
use Rattle.child_link.proofs.Replying.{said_waits, waits_as}
use Rattle.child_link.proofs.Roles.{rested, seen_still}
use Rattle.journal_model.specs.declared.entry.Entry.{Entry}
use Rattle.child_link.specs.Moves.{EarMoved}
use Rattle.child_link.proofs.ear.Ear.go_on.Goals as goal

pub rest-requires : goal.rest-requires
rest-requires g c = record { waits = waits_as c.turn.ensures.door.opening c.turn.ensures.door.number (said_waits _ _ (g.D.Door.view c.turn.new.door).seen (Listen c.args.self.now.child) (c.in-Rest.ensures.rest refl)) }

pub returns-in-Rest-clause-moved : goal.returns-in-Rest-clause-moved
returns-in-Rest-clause-moved g c =
    subst (λ (j : List Entry). EarMoved (g.D.Door.view c.args.door.now).number (g.D.Door.view c.args.door.now).alone (g.D.Door.view c.args.door.now).seen j c.args.self.now c.turn.new.self)
    (seen_still c.rest.ensures) c.turn.ensures.moved

pub returns-in-Rest-clause-door : goal.returns-in-Rest-clause-door
returns-in-Rest-clause-door g c = rested c.rest.ensures c.turn.ensures.door
