use Rattle.std.proofs.Common.{rules}
use Rattle.threads.specs.Log.{Allowed}
use Rattle.threads.proofs.Keeps.{looks}
use Rattle.threads.proofs.steps.read.Goals as goal

pub load-requires : goal.load-requires
load-requires g c = (search rules, search rules, looks g.V.Held.history g.V.Held.fixed (Allowed g.V.Held.made_by g.V.Held.may) c.args.board.now.key.value.value c.args.board.now.key.seats _ _ _ _)
