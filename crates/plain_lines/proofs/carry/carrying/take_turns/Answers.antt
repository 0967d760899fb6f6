use Rattle.plain_lines.proofs.CarryLemmas.Turning.{going_stops}
use Rattle.plain_lines.proofs.carry.carrying.take_turns.Goals as goal

pub returns-clause-ended : goal.returns-clause-ended
returns-clause-ended g c = λ begun going.
    going_stops g.V.Way.passes (g.S.Source.told c.loop.source).given (g.W.Sink.told c.loop.sink).taken c.loop.splitter.bytes begun (c.loop.invariant.goes begun going)
