use Rattle.std.proofs.Common.{◌≡◌, true}
use Rattle.journal_model.specs.Journal.{is_started}
use Rattle.journal_model.specs.Shares.{Moved, by_mouth, is_said}
use Rattle.child_link.specs.Doors.{IsSameDoor}
use Rattle.journal_model.specs.Halves.{MouthWired, IsSameMouth}
use Rattle.child_link.proofs.mouth.Mouth.run.Given as goal

abbrev pub invariant-loop : goal.invariant-loop
invariant-loop g l = record {
  started : is_started (g.D.Door.view l.door).seen l.self.child ≡ true;
  moved : Moved (g.D.Door.view l.initial.door).number (g.D.Door.view l.initial.door).alone (by_mouth l.initial.self.child) (is_said l.initial.self.child) (g.D.Door.view l.initial.door).seen (g.D.Door.view l.door).seen
      (MouthWired (g.D.Door.view l.initial.door).seen l.initial.self) (MouthWired (g.D.Door.view l.door).seen l.self);
  same : IsSameMouth l.initial.self l.self;
  door : IsSameDoor (g.D.Door.view l.initial.door) (g.D.Door.view l.door);
}
