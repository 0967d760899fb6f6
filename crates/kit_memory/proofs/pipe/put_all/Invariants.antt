use Rattle.std.proofs.Common.{◌≡◌, ◌+◌, ◌++◌, false, take}
use Rattle.rtrb.specs.Ring.{SameProducer, sent, known_free}
use Rattle.kit_memory.specs.Pipes.{bytes_in, has_end}
use Rattle.kit_memory.proofs.pipe.put_all.Given as goal

-- the bytes so far were put
abbrev pub invariant-loop-byte : goal.invariant-loop-byte
invariant-loop-byte l = record {
  ring : SameProducer l.initial.ring l.ring;
  bytes : bytes_in (sent l.ring) ≡ bytes_in (sent l.initial.ring) ++ take l.byte-index l.bytes;
  unended : has_end (sent l.ring) ≡ false;
  room : known_free l.ring + l.byte-index ≡ known_free l.initial.ring;
}
