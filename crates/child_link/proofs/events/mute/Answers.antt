use Rattle.child_link.proofs.Replying.{mute_so}
use Rattle.child_link.proofs.events.mute.Goals as goal

pub returns-clause-mutes : goal.returns-clause-mutes
returns-clause-mutes g c = mute_so c.args.child c.requires.started c.make-done.ensures.made
