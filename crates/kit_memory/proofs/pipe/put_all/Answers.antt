use Rattle.std.proofs.Common.{ap, ◌∙◌, arith}
use Rattle.rtrb.specs.Ring.{sent}
use Rattle.kit_memory.specs.Pipes.{bytes_in, has_end}
use Rattle.kit_memory.proofs.PipeLemmas.{byte_unended, producer_both, put_more}
use Rattle.kit_memory.proofs.pipe.put_all.Goals as goal

pub loop-byte-preserved : goal.loop-byte-preserved
loop-byte-preserved c = record {
  ring = producer_both c.args.ring.now c.loop-byte.ring c.push_reserved.new.self c.loop-byte.invariant.ring c.push_reserved.ensures.ring;
  bytes = put_more (sent c.loop-byte.ring) (sent c.push_reserved.new.self) (bytes_in (sent c.args.ring.now)) c.args.bytes.now c.loop-byte.byte-index 0
      c.push_reserved.ensures.sent.0 c.loop-byte.invariant.bytes c.loop-byte-test.true;
  unended = ap has_end c.push_reserved.ensures.sent.0 ∙ byte_unended (sent c.loop-byte.ring) _ c.loop-byte.invariant.unended;
  room = omega (arith, c.push_reserved.ensures.sent.1, c.loop-byte.invariant.room);
}
