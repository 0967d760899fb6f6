use Rattle.std.proofs.Common.{refl, sym, ap, ◌∙◌}
use Rattle.child_link.proofs.Roles.{moved_both}
use Rattle.journal_model.specs.Wires.{may_hear}
use Rattle.host_core.specs.declared.event.Reply.TheVariants.{Wait, Over}
use Rattle.child_link.proofs.Ears.{ear_on}
use Rattle.child_link.proofs.Hearing.{says_listen}
use Rattle.child_link.proofs.ear.Ear.turn.Goals as goal
use Rattle.child_link.proofs.Asking.{grows_on}

pub hear_all-requires-clause-turn : goal.hear_all-requires-clause-turn
hear_all-requires-clause-turn g c = ap (may_hear (g.D.Door.view c.listen.new.door).seen) (sym c.child-child.ensures) ∙ c.in-Read.ensures.listening.1

pub returns-in-Rest-clause-moved : goal.returns-in-Rest-clause-moved
returns-in-Rest-clause-moved g c = ear_on c.args.self.now c.listen.ensures.passed

pub returns-in-Rest-clause-rest : goal.returns-in-Rest-clause-rest
returns-in-Rest-clause-rest g c = λ _. says_listen {o = (g.D.Door.view c.args.door.now).opening} {n = (g.D.Door.view c.args.door.now).number} (g.D.Door.view c.listen.new.door).seen Wait refl refl c.child-child.ensures c.in-Rest.ensures.listening

pub returns-in-Over-clause-moved : goal.returns-in-Over-clause-moved
returns-in-Over-clause-moved g c = ear_on c.args.self.now c.listen.ensures.passed

pub returns-in-Over-clause-over : goal.returns-in-Over-clause-over
returns-in-Over-clause-over g c = λ _. says_listen {o = (g.D.Door.view c.args.door.now).opening} {n = (g.D.Door.view c.args.door.now).number} (g.D.Door.view c.listen.new.door).seen Over refl refl c.child-child.ensures c.in-Over.ensures.listening

pub returns-in-Read-clause-moved : goal.returns-in-Read-clause-moved
returns-in-Read-clause-moved g c = moved_both c.listen.ensures.door.number c.listen.ensures.door.alone (ear_on c.args.self.now c.listen.ensures.passed) c.hear_all.ensures.moved

pub returns-in-Rest-clause-long : goal.returns-in-Rest-clause-long
returns-in-Rest-clause-long g c = λ _. grows_on c.listen.ensures.passed

pub returns-in-Over-clause-long : goal.returns-in-Over-clause-long
returns-in-Over-clause-long g c = λ _. grows_on c.listen.ensures.passed

pub returns-in-Read-clause-long : goal.returns-in-Read-clause-long
returns-in-Read-clause-long g c = λ long. moved_both c.listen.ensures.door.number c.listen.ensures.door.alone (grows_on c.listen.ensures.passed) (c.hear_all.ensures.long long)
