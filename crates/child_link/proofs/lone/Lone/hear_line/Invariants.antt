use Rattle.std.proofs.Common.{◌≡◌, true}
use Rattle.journal_model.specs.Journal.{is_started}
use Rattle.journal_model.specs.Shares.{Moved, by_link, is_of_child}
use Rattle.child_link.specs.Doors.{IsSameDoor}
use Rattle.journal_model.specs.Halves.{LinkWired, IsSameEar, IsSameMouth}
use Rattle.child_link.proofs.lone.Lone.hear_line.Given as goal

abbrev pub invariant-loop : goal.invariant-loop
invariant-loop g l = record {
  started : is_started (g.D.Door.view l.door).seen l.self.ear.child ≡ true;
  moved : Moved (g.D.Door.view l.initial.door).number (g.D.Door.view l.initial.door).alone (by_link l.initial.self.ear.child) (is_of_child l.initial.self.ear.child) (g.D.Door.view l.initial.door).seen (g.D.Door.view l.door).seen
      (LinkWired (g.D.Door.view l.initial.door).seen l.initial.self.ear l.initial.self.mouth) (LinkWired (g.D.Door.view l.door).seen l.self.ear l.self.mouth);
  same : IsSameEar l.initial.self.ear l.self.ear × IsSameMouth l.initial.self.mouth l.self.mouth;
  door : IsSameDoor (g.D.Door.view l.initial.door) (g.D.Door.view l.door);
}
