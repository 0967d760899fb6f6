use Rattle.std.proofs.Common.{refl}
use Rattle.child_life.proofs.EndLemmas.Held.{held_closed}
use Rattle.child_life.proofs.end.ending.close_over.Goals as goal

pub returns-clause-held : goal.returns-clause-held
returns-clause-held g c = λ h.
    held_closed (g.D.Door.view c.args.door.now).number c.args.link.now.ear.child (g.D.Door.view c.args.door.now).seen (g.D.Door.view c.close_alone.new.door).seen c.args.link.now.ear c.args.link.now.mouth refl c.close_alone.ensures.closes h
