use Rattle.std.proofs.Common.{◌≡◌, false, length}
use Rattle.rtrb.specs.Ring.{SameConsumer, received}
use Rattle.kit_memory.specs.Pipes.{bytes_in, has_end}
use Rattle.kit_memory.proofs.pipe.await_some.Given as goal

-- nothing was taken
abbrev pub invariant-loop : goal.invariant-loop
invariant-loop g l = record {
  long : length l.buf ≡ length l.initial.buf;
  ring : SameConsumer l.initial.ring l.ring;
  bytes : bytes_in (received l.ring) ≡ bytes_in (received l.initial.ring);
  unended : has_end (received l.ring) ≡ false;
}
