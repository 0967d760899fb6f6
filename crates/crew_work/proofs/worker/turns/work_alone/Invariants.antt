use Rattle.std.proofs.Common.{true}
use Rattle.journal_model.specs.Room.{claims_left}
use Rattle.child_link.specs.Doors.{IsSameDoor}
use Rattle.child_link.specs.Moves.{IsSameLink}
use Rattle.child_link.specs.Writings.{LoneWired}
use Rattle.crew_work.specs.Worker.Works.{CanClaim, WorkedAt}
use Rattle.crew_work.proofs.worker.turns.work_alone.Given as goal

abbrev pub invariant-turns : goal.invariant-turns
invariant-turns g l = record {
  worked : WorkedAt l.setup true l.initial.link.ear.child (g.D.Door.view l.initial.door) (g.D.Door.view l.door) (λ j. LoneWired j l.initial.link.ear l.initial.link.mouth) (λ j. LoneWired j l.link.ear l.link.mouth)
      (g.K.Desk.told l.initial.desk) (g.K.Desk.told l.desk);
  can : CanClaim (g.D.Door.view l.door) l.link.ear.child;
  same : IsSameLink l.initial.link.ear l.link.ear l.initial.link.mouth l.link.mouth;
  door : IsSameDoor (g.D.Door.view l.initial.door) (g.D.Door.view l.door);
}

abbrev pub decreases-turns : goal.decreases-turns
decreases-turns g l = claims_left (g.D.Door.view l.door).opening (g.D.Door.view l.door).seen
