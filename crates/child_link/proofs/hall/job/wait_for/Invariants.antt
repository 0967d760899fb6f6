use Rattle.std.proofs.Common.{◌≡◌, true}
use Rattle.host_core.specs.Steps.{is_asked}
use Rattle.child_link.specs.Doors.{IsSameDoor}
use Rattle.child_link.specs.Asks.{Grows, never}
use Rattle.child_link.proofs.hall.job.wait_for.Given as goal

abbrev pub invariant-loop : goal.invariant-loop
invariant-loop g l = record {
  can : (goal.iterator-loop g).can_next l.iterator';
  finite : (goal.iterator-loop g).is_finite l.iterator';
  asked : is_asked (g.D.Door.view l.door).seen l.child l.job ≡ true;
  grows : Grows (g.D.Door.view l.initial.door).number (g.D.Door.view l.initial.door).alone never (g.D.Door.view l.initial.door).seen (g.D.Door.view l.door).seen;
  door : IsSameDoor (g.D.Door.view l.initial.door) (g.D.Door.view l.door);
}
