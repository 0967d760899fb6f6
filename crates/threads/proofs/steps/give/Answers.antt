use Rattle.std.proofs.Common.{rules}
use Rattle.threads.specs.Log.{Allowed}
use Rattle.threads.proofs.Keeps.{gives_turn}
use Rattle.threads.proofs.steps.give.Goals as goal

pub store-requires : goal.store-requires
store-requires g c =
    let r = c.requires.value in (
      search rules,
      search rules,
      gives_turn g.V.Held.history g.V.Held.fixed (Allowed g.V.Held.made_by g.V.Held.may) c.args.board.now.key.value.value c.args.board.now.key.seats _ _ c.args.seat.now.me r.0
          c.requires.table.2 c.requires.inside r.1 r.2 r.3,
    )
