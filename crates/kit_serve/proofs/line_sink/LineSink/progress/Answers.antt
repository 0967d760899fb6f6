use Rattle.std.proofs.Common.{arith}
use Rattle.kit_serve.proofs.KitLemmas.Describing.{decimal_free}
use Rattle.kit_serve.proofs.line_sink.LineSink.progress.Goals as goal

pub tell-requires-clause-line : goal.tell-requires-clause-line
tell-requires-clause-line g c = decimal_free c.args.bytes (omega arith)
