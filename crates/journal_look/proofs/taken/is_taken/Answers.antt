use Rattle.std.proofs.Common.{arith, sym}
use Rattle.journal_look.proofs.taken.is_taken.Goals as goal

pub returns-then-top-from : goal.returns-then-top-from
returns-then-top-from c = sym (c.requires.top.each c.args.task (omega (arith, c.from.ensures)))
