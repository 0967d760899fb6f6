use Rattle.std.proofs.Common.{rules}
use Rattle.threads.specs.Log.{Allowed, seen}
use Rattle.threads.proofs.Keeps.{notes_group}
use Rattle.threads.proofs.steps.note.Goals as goal

pub store-requires : goal.store-requires
store-requires g c =
    let r = c.requires.group in (
      search rules,
      search rules,
      notes_group g.V.Held.history g.V.Held.fixed (Allowed g.V.Held.made_by g.V.Held.may) c.args.board.now.key.value.value c.args.board.now.key.seats _ _ c.args.seat.now.me c.args.amount (seen c.args.seat.now.me.0.parts) r.2 r.1 r.3 r.4
          c.requires.inside.0 c.requires.inside.1 r.5 r.6 r.0 r.7,
    )
