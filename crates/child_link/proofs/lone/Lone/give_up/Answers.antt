use Rattle.std.proofs.Common.{sym, subst, ◌∙◌, ℕ}
use Rattle.journal_model.specs.declared.verdict.Why.TheVariants.{Memory}
use Rattle.child_link.proofs.Linked.{link_mouth}
use Rattle.child_link.specs.Doors.{Ends}
use Rattle.child_link.proofs.Mouths.{mouth_ends}
use Rattle.child_link.proofs.lone.Lone.give_up.Goals as goal

pub returns-clause-moved : goal.returns-clause-moved
returns-clause-moved g c =
    link_mouth c.args.self.now.ear c.args.self.now.mouth c.args.self.now.mouth c.args.self.now.one_child
    (mouth_ends c.args.self.now.mouth (subst (λ (k : ℕ). Ends (g.D.Door.view c.args.door.now).opening (g.D.Door.view c.args.door.now).number (g.D.Door.view c.args.door.now).alone (g.D.Door.view c.args.door.now).seen (g.D.Door.view c.stop.new.door).seen k Memory)
    (c.child-child.ensures ∙ sym c.args.self.now.one_child) c.stop.ensures.ends))

pub returns-clause-ends : goal.returns-clause-ends
returns-clause-ends g c = subst (λ (k : ℕ). Ends (g.D.Door.view c.args.door.now).opening (g.D.Door.view c.args.door.now).number (g.D.Door.view c.args.door.now).alone (g.D.Door.view c.args.door.now).seen (g.D.Door.view c.stop.new.door).seen k Memory) c.child-child.ensures c.stop.ensures.ends
