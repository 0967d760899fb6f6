use Rattle.std.proofs.Common.{◌≡◌, true}
use Rattle.journal_model.specs.Journal.{is_started}
use Rattle.host_core.specs.Steps.{is_asked}
use Rattle.journal_model.specs.Shares.{Moved, by_link, is_of_child}
use Rattle.child_link.specs.Doors.{IsSameDoor}
use Rattle.child_link.specs.Asks.{HeardMoved, HeardOut}
use Rattle.journal_model.specs.Halves.{IsSameEar, IsSameMouth}
use Rattle.child_link.specs.Writings.{LoneWired}
use Rattle.child_link.proofs.lone.Lone.settle.Given as goal

abbrev pub invariant-loop : goal.invariant-loop
invariant-loop g l = record {
  started : is_started (g.D.Door.view l.door).seen l.self.ear.child ≡ true;
  moved : Moved (g.D.Door.view l.initial.door).number (g.D.Door.view l.initial.door).alone (by_link l.initial.self.ear.child) (is_of_child l.initial.self.ear.child) (g.D.Door.view l.initial.door).seen (g.D.Door.view l.door).seen
      (LoneWired (g.D.Door.view l.initial.door).seen l.initial.self.ear l.initial.self.mouth) (LoneWired (g.D.Door.view l.door).seen l.self.ear l.self.mouth);
  heard : HeardMoved (g.D.Door.view l.initial.door).number (g.D.Door.view l.initial.door).alone (g.D.Door.view l.initial.door).seen (g.D.Door.view l.door).seen l.initial.self.ear.child l.job
      (HeardOut l.initial.self.ear.child l.job (g.D.Door.view l.initial.door).seen);
  same : IsSameEar l.initial.self.ear l.self.ear × IsSameMouth l.initial.self.mouth l.self.mouth;
  door : IsSameDoor (g.D.Door.view l.initial.door) (g.D.Door.view l.door);
  asked : is_asked (g.D.Door.view l.door).seen l.self.ear.child l.job ≡ true;
}
