use Rattle.child_link.proofs.Replying.{sent_so}
use Rattle.child_link.proofs.events.sent.Goals as goal

pub returns-clause-sends : goal.returns-clause-sends
returns-clause-sends g c = sent_so c.args.child c.make-done.ensures.made
