use Rattle.kit_serve.proofs.WholeLines.{ends_by_last}
use Rattle.kit_serve.proofs.telling.ends_line.Goals as goal

pub returns-in-Some : goal.returns-in-Some
returns-in-Some c = ends_by_last c.args.bytes.now c.in-Some.byte.now c.in-Some.ensures.value
