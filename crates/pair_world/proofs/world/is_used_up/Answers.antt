use Rattle.std.proofs.Common.{Bool, not, sym, ap}
use Rattle.std.specs.Prelude.{◌||◌}
use Rattle.pair_world.specs.Moves.{is_gone}
use Rattle.pair_world.proofs.Sides.{long_rest}
use Rattle.pair_world.proofs.world.is_used_up.Goals as goal

pub returns-in-None : goal.returns-in-None
returns-in-None c = sym (ap (λ (b : Bool). not (b || is_gone c.args.reply.now)) (long_rest c.args.pair.now.at_host c.requires c.in-None.ensures))
