use Rattle.child_link.proofs.Solo.{closes_alone}
use Rattle.child_link.proofs.events.close.Goals as goal

pub returns-clause-closes : goal.returns-clause-closes
returns-clause-closes g c =
    closes_alone (g.D.Door.view c.args.door.now).opening (g.D.Door.view c.args.door.now).number (g.D.Door.view c.args.door.now).alone (g.D.Door.view c.args.door.now).seen (g.D.Door.view c.make-done.new.door).seen c.args.child c.make-done.result
    c.requires.alone c.requires.started c.requires.idle c.make-done.ensures.made
