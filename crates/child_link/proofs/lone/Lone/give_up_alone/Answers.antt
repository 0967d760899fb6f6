use Rattle.std.proofs.Common.{refl}
use Rattle.journal_model.specs.declared.verdict.Why.TheVariants.{Memory}
use Rattle.child_link.proofs.Solo.{goes_alone, memory_alone, keeps_alone}
use Rattle.child_link.proofs.Writings.{lone_ended}
use Rattle.child_link.proofs.lone.Lone.give_up_alone.Goals as goal

pub returns-clause-goes : goal.returns-clause-goes
returns-clause-goes g c = goes_alone c.args.self.now.ear.child c.requires.alone c.give_up.ensures.moved

pub returns-clause-link : goal.returns-clause-link
returns-clause-link g c =
    keeps_alone c.requires.alone
    (lone_ended {o = (g.D.Door.view c.args.door.now).opening} c.args.self.now.ear c.give_up.new.self.ear c.args.self.now.mouth c.give_up.new.self.mouth Memory refl c.give_up.ensures.same.0.0 c.give_up.ensures.moved c.give_up.ensures.ends)
    c.give_up.ensures.same

pub returns-clause-memory : goal.returns-clause-memory
returns-clause-memory g c = memory_alone (g.D.Door.view c.args.door.now).opening (g.D.Door.view c.args.door.now).number (g.D.Door.view c.args.door.now).alone (g.D.Door.view c.args.door.now).seen (g.D.Door.view c.give_up.new.door).seen c.args.self.now.ear.child c.give_up.ensures.ends c.requires.alone
