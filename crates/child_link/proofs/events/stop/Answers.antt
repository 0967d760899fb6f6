use Rattle.child_link.proofs.Replying.{stopped, over_by}
use Rattle.child_link.proofs.events.stop.Goals as goal

pub returns-clause-ends : goal.returns-clause-ends
returns-clause-ends g c = stopped c.args.child c.args.why c.requires.started c.requires.why c.make-done.ensures.made

pub returns-clause-over : goal.returns-clause-over
returns-clause-over g c = over_by {o = (g.D.Door.view c.args.door.now).opening} {n = (g.D.Door.view c.args.door.now).number} {a = (g.D.Door.view c.args.door.now).alone} {old = (g.D.Door.view c.args.door.now).seen} c.args.child c.args.why (stopped c.args.child c.args.why c.requires.started c.requires.why c.make-done.ensures.made)
