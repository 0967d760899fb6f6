use Rattle.std.proofs.Common.{sym, ap, subst, ◌∙◌}
use Rattle.journal_model.specs.Halves.{MouthValue}
use Rattle.child_link.proofs.Roles.{moved_then, same_both, started_on}
use Rattle.journal_model.specs.Shares.{by_mouth, is_said}
use Rattle.journal_model.specs.Journal.{is_started, is_ended}
use Rattle.host_core.specs.declared.event.Reply.TheVariants.{Over}
use Rattle.child_link.specs.Moves.{MouthMoved}
use Rattle.child_link.proofs.Hearing.{says_fetch, ended_fetch}
use Rattle.child_link.proofs.Mouths.{mouth_ends}
use Rattle.child_link.proofs.mouth.Mouth.run.Goals as goal

pub returns-then-not-go_on-clause-moved : goal.returns-then-not-go_on-clause-moved
returns-then-not-go_on-clause-moved g c = moved_then by_mouth is_said c.loop.invariant.door.number c.loop.invariant.door.alone c.loop.invariant.same.0 c.loop.invariant.moved c.go_on.ensures.moved

pub returns-then-not-go_on-clause-door : goal.returns-then-not-go_on-clause-door
returns-then-not-go_on-clause-door g c = same_both c.loop.invariant.door c.go_on.ensures.door

pub returns-then-not-go_on-clause-over : goal.returns-then-not-go_on-clause-over
returns-then-not-go_on-clause-over g c = says_fetch (g.D.Door.view c.go_on.new.door).seen Over c.loop.invariant.door.opening c.loop.invariant.door.number c.loop.invariant.same.0 (c.go_on.ensures.over c.if-not-go_on.true)

pub loop-preserved : goal.loop-preserved
loop-preserved g c = record {
  started = ap (is_started (g.D.Door.view c.go_on.new.door).seen) c.go_on.ensures.same.0 ∙ started_on c.loop.self.child c.go_on.ensures.moved c.loop.invariant.started;
  moved = moved_then by_mouth is_said c.loop.invariant.door.number c.loop.invariant.door.alone c.loop.invariant.same.0 c.loop.invariant.moved c.go_on.ensures.moved;
  same = (c.go_on.ensures.same.0 ∙ c.loop.invariant.same.0, c.go_on.ensures.same.1 ∙ c.loop.invariant.same.1);
  door = same_both c.loop.invariant.door c.go_on.ensures.door;
}

pub returns-clause-moved : goal.returns-clause-moved
returns-clause-moved g c =
    let d = c.loop.door in
    moved_then by_mouth is_said c.loop.invariant.door.number c.loop.invariant.door.alone c.loop.invariant.same.0 c.loop.invariant.moved
    (subst (λ (m : MouthValue). MouthMoved (g.D.Door.view d).number (g.D.Door.view d).alone (g.D.Door.view d).seen (g.D.Door.view c.give_up.new.door).seen c.loop.self m) (sym c.give_up.ensures.same)
    (mouth_ends c.loop.self c.give_up.ensures.ends))

pub returns-clause-same : goal.returns-clause-same
returns-clause-same g c = (
  ap (λ (m : MouthValue). m.child) c.give_up.ensures.same ∙ c.loop.invariant.same.0,
  ap (λ (m : MouthValue). m.number) c.give_up.ensures.same ∙ c.loop.invariant.same.1,
)

pub returns-clause-door : goal.returns-clause-door
returns-clause-door g c = same_both c.loop.invariant.door c.give_up.ensures.door

pub returns-clause-over : goal.returns-clause-over
returns-clause-over g c =
    ended_fetch (g.D.Door.view c.args.door.now).opening (g.D.Door.view c.args.door.now).number c.args.self.now.child (g.D.Door.view c.give_up.new.door).seen
    (started_on c.args.self.now.child (returns-clause-moved g c) c.requires.started)
    (ap (is_ended (g.D.Door.view c.give_up.new.door).seen) (sym c.loop.invariant.same.0) ∙ c.give_up.ensures.over)
