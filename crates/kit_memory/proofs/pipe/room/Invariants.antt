use Rattle.rtrb.specs.Ring.{ProducerLooked}
use Rattle.kit_memory.proofs.pipe.room.Given as goal

-- nothing was put
abbrev pub invariant-loop : goal.invariant-loop
invariant-loop g l = ProducerLooked l.initial.ring l.ring
