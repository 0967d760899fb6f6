use Rattle.std.proofs.Common.{◌≡◌, true}
use Rattle.std.proofs.Common.{length, ◌≤◌}
use Rattle.journal_model.specs.Journal.{is_started}
use Rattle.journal_model.specs.Shares.{Moved, by_ear, is_heard}
use Rattle.child_link.specs.Doors.{IsSameDoor}
use Rattle.journal_model.specs.Halves.{EarWired, IsSameEar}
use Rattle.child_link.proofs.ear.Ear.feed_all.Given as goal

abbrev pub invariant-loop : goal.invariant-loop
invariant-loop g l = record {
  started : is_started (g.D.Door.view l.door).seen l.self.child ≡ true;
  moved : Moved (g.D.Door.view l.initial.door).number (g.D.Door.view l.initial.door).alone (by_ear l.initial.self.child) (is_heard l.initial.self.child) (g.D.Door.view l.initial.door).seen (g.D.Door.view l.door).seen
      (EarWired (g.D.Door.view l.initial.door).seen l.initial.self) (EarWired (g.D.Door.view l.door).seen l.self);
  same : IsSameEar l.initial.self l.self;
  only : l.self ≡ record l.initial.self { held = l.self.held };
  fewer : length l.self.held ≤ length l.initial.self.held;
  door : IsSameDoor (g.D.Door.view l.initial.door) (g.D.Door.view l.door);
}

abbrev pub decreases-loop : goal.decreases-loop
decreases-loop g l = length l.self.held
