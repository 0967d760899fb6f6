use Rattle.std.proofs.Common.{arith}
use Rattle.kit_serve.proofs.KitLemmas.Describing.{decimal_free}
use Rattle.kit_serve.proofs.kit.asides.cost.Goals as goal

pub one_line-requires-clause-line : goal.one_line-requires-clause-line
one_line-requires-clause-line c = decimal_free c.in-Some.number (omega arith)
