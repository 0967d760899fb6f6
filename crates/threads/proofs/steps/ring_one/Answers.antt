use Rattle.std.proofs.Common.{rules}
use Rattle.threads.specs.Log.{Allowed}
use Rattle.threads.proofs.Keeps.{rings}
use Rattle.threads.proofs.steps.ring_one.Goals as goal

pub fetch_add-requires : goal.fetch_add-requires
fetch_add-requires g c =
    (search rules, search rules, rings g.V.Held.history g.V.Held.fixed (Allowed g.V.Held.made_by g.V.Held.may) c.args.board.now.key.value.value c.args.board.now.key.seats _ _ _ _ _ c.requires.bell.0)
