use Rattle.std.proofs.Common.{ap, subst, ℕ}
use Rattle.journal_model.specs.declared.verdict.Why.TheVariants.{Memory}
use Rattle.journal_model.specs.Halves.{MouthValue}
use Rattle.child_link.specs.Doors.{Ends}
use Rattle.child_link.proofs.mouth.Mouth.give_up.Goals as goal

pub returns-then-self-clause-ends : goal.returns-then-self-clause-ends
returns-then-self-clause-ends g c =
    subst (λ (k : ℕ). Ends (g.D.Door.view c.args.door.now).opening (g.D.Door.view c.args.door.now).number (g.D.Door.view c.args.door.now).alone (g.D.Door.view c.args.door.now).seen (g.D.Door.view c.stop.new.door).seen k Memory)
    (ap (λ (m : MouthValue). m.child) c.self.view_is) c.stop.ensures.ends

pub returns-else-self-clause-ends : goal.returns-else-self-clause-ends
returns-else-self-clause-ends g c =
    subst (λ (k : ℕ). Ends (g.D.Door.view c.args.door.now).opening (g.D.Door.view c.args.door.now).number (g.D.Door.view c.args.door.now).alone (g.D.Door.view c.args.door.now).seen (g.D.Door.view c.end_child.new.door).seen k Memory)
    (ap (λ (m : MouthValue). m.child) c.self.view_is) c.end_child.ensures.ends
