use Rattle.child_link.proofs.Writings.{lone_on}
use Rattle.child_link.proofs.lone.Lone.look_up.Goals as goal

pub returns-clause-moved : goal.returns-clause-moved
returns-clause-moved g c = lone_on c.args.self.now.ear c.args.self.now.mouth c.args.self.now.one_child c.verdict.ensures.passed
