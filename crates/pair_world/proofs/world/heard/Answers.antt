use Rattle.std.proofs.Common.{arith}
use Rattle.pair_world.proofs.Sides.{too_long}
use Rattle.pair_world.proofs.world.heard.Goals as goal

pub returns-in-None : goal.returns-in-None
returns-in-None c = too_long c.args.child c.args.pair.now.at_host c.in-None.ensures (omega (arith, c.waiting.ensures, c.if-waiting-gt-LONGEST_LINE.true))
