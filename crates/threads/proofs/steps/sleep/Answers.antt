use Rattle.std.proofs.Common.{rules, arith}
use Rattle.threads.specs.Log.{Allowed}
use Rattle.threads.proofs.Keeps.{counts_down, rings}
use Rattle.threads.proofs.steps.sleep.Goals as goal

pub fetch_add-requires : goal.fetch_add-requires
fetch_add-requires g c = (search rules, search rules, rings g.V.Held.history g.V.Held.fixed (Allowed g.V.Held.made_by g.V.Held.may) c.args.board.now.key.value.value c.args.board.now.key.seats _ _ _ 66 1 (omega arith))

pub fetch_sub-requires : goal.fetch_sub-requires
fetch_sub-requires g c = (search rules, search rules, counts_down g.V.Held.history g.V.Held.fixed (Allowed g.V.Held.made_by g.V.Held.may) c.args.board.now.key.value.value c.args.board.now.key.seats _ _ _ 66 1 (omega arith))
