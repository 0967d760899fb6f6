use Rattle.std.proofs.Common.{slice_get}
use Rattle.plain_lines.proofs.CarryLemmas.Oldest.{some_question}
use Rattle.plain_lines.proofs.carry.way.FromHostWay.pass.Goals as goal

-- src/way.rt:60:5
pub returns : goal.returns
returns g c = some_question (slice_get c.deref_mut.result.now 0) c.args.line.now c.from_host.result c.from_host.ensures.oldest
