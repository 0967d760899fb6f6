use Rattle.std.proofs.Common.{◌≡◌}
use Rattle.child_link.specs.Doors.{IsSameDoor}
use Rattle.crew_work.specs.Worker.Works.{CanServe, WorkedAt}
use Rattle.crew_work.proofs.beside.turns.work.Given as goal

abbrev pub invariant-loop : goal.invariant-loop
invariant-loop g l = record {
  can : (goal.iterator-loop g).can_next l.iterator';
  finite : (goal.iterator-loop g).is_finite l.iterator';
  worked : WorkedAt l.setup (g.W.Way.owns l.initial.way) (g.W.Way.serves l.initial.way) (g.D.Door.view l.initial.door) (g.D.Door.view l.door) (g.W.Way.wired l.initial.way) (g.W.Way.wired l.way)
      (g.K.Desk.told l.initial.desk) (g.K.Desk.told l.desk);
  serves : CanServe (g.D.Door.view l.door).opening (g.W.Way.serves l.way) (g.D.Door.view l.door).seen;
  way : (g.W.Way.serves l.way ≡ g.W.Way.serves l.initial.way) × (g.W.Way.owns l.way ≡ g.W.Way.owns l.initial.way) × g.W.Way.same l.initial.way l.way;
  door : IsSameDoor (g.D.Door.view l.initial.door) (g.D.Door.view l.door);
}
