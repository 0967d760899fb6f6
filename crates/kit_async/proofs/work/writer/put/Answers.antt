use Rattle.std.proofs.Common.{refl}
use Rattle.kit_serve.specs.Turns.{sink_half}
use Rattle.kit_async.proofs.WorkLemmas.Writers.{failed_leaves, flushed_leaves}
use Rattle.kit_async.proofs.work.writer.put.Goals as goal

pub returns-clause-sink : goal.returns-clause-sink
returns-clause-sink g c =
    let w = g.W.Sink in
    flushed_leaves (sink_half (w.told c.args.sink.now))
    (sink_half (w.told c.write_line.new.sink))
    (sink_half (w.told c.flush.new.self)) c.flush.result
    c.in_ok-write_line.ensures.cause.done c.flush.ensures.cause c.flush.ensures.open c.flush.ensures.number c.write_line.ensures.stays.1
