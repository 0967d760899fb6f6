use Rattle.std.proofs.Common.{refl}
use Rattle.pair_world.proofs.Made.{odd_event}
use Rattle.pair_world.proofs.world.World.event.Goals as goal

pub returns-in-Odd-clause-moves : goal.returns-in-Odd-clause-moves
returns-in-Odd-clause-moves c =
    odd_event _ c.args.self.now _ c.args.by c.args.event c.in_ok-reply.reply c.self.view_is c.in_ok-reply.ensures.reply c.in-Odd.is
    c.step.ensures.opening c.in_ok-reply.ensures.journal c.in_ok-reply.ensures.shut refl
