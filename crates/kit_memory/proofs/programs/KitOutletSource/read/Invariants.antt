use Rattle.std.proofs.Common.{◌≡◌, true}
use Rattle.rtrb.specs.Ring.{SameConsumer}
use Rattle.kit_memory.specs.Children.{read_of}
use Rattle.kit_memory.proofs.programs.KitOutletSource.read.Given as goal

-- nothing was read yet
abbrev pub invariant-loop : goal.invariant-loop
invariant-loop g l = record {
  is_open : l.self.is_open ≡ true;
  read : read_of l.self.child ≡ read_of l.initial.self.child;
  pipe : SameConsumer l.initial.self.child.source.ring l.self.child.source.ring;
}
