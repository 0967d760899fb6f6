use Rattle.std.proofs.Common.{◌≡◌, ◌++◌, false, length, take}
use Rattle.rtrb.specs.Ring.{SameConsumer, received}
use Rattle.kit_memory.specs.Pipes.{bytes_in, has_end}
use Rattle.kit_memory.proofs.pipe.take_some.Given as goal

-- the bytes so far were taken
abbrev pub invariant-loop-at : goal.invariant-loop-at
invariant-loop-at l = record {
  long : length l.buf ≡ length l.initial.buf;
  ring : SameConsumer l.initial.ring l.ring;
  bytes : bytes_in (received l.ring) ≡ bytes_in (received l.initial.ring) ++ take l.at l.buf;
  unended : has_end (received l.ring) ≡ false;
}
