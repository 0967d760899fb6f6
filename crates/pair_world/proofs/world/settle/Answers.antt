use Rattle.pair_world.proofs.Sides.{dropped}
use Rattle.pair_world.proofs.world.settle.Goals as goal

pub returns-then-is_used_up : goal.returns-then-is_used_up
returns-then-is_used_up c = dropped c.args.pair.now c.drop_line.new.self c.args.reply.now c.requires c.is_used_up.result c.is_used_up.ensures c.if-is_used_up.true c.drop_line.ensures
