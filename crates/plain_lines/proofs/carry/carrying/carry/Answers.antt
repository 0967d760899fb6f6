use Rattle.plain_lines.proofs.CarryLemmas.Turning.{going_begins}
use Rattle.plain_lines.proofs.carry.carrying.carry.Goals as goal

pub returns-clause-carries : goal.returns-clause-carries
returns-clause-carries g c =
    c.take_turns.ensures.ended _
    (going_begins g.V.Way.passes (g.S.Source.told c.args.source.now).given (g.W.Sink.told c.args.sink.now).taken c.new-splitter.result.bytes c.new-splitter.ensures.bytes)
