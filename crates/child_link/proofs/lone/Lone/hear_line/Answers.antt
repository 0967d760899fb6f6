use Rattle.std.proofs.Common.{sym, ap, subst, ◌∙◌}
use Rattle.child_link.proofs.Roles.{moved_then, same_both, started_on}
use Rattle.journal_model.specs.Shares.{is_of_child, by_link}
use Rattle.journal_model.specs.Journal.{is_started, is_ended}
use Rattle.child_link.specs.Asks.{HasBegun}
use Rattle.std.proofs.Common.{inl}
use Rattle.child_link.proofs.lone.Lone.hear_line.Goals as goal

pub returns-then-hear_first-clause-moved : goal.returns-then-hear_first-clause-moved
returns-then-hear_first-clause-moved g c = moved_then by_link is_of_child c.loop.invariant.door.number c.loop.invariant.door.alone c.loop.invariant.same.0.0 c.loop.invariant.moved c.hear_first.ensures.moved

pub returns-then-hear_first-clause-door : goal.returns-then-hear_first-clause-door
returns-then-hear_first-clause-door g c = same_both c.loop.invariant.door c.hear_first.ensures.door

pub returns-then-hear_first-clause-begun : goal.returns-then-hear_first-clause-begun
returns-then-hear_first-clause-begun g c = subst (HasBegun (g.D.Door.view c.hear_first.new.door).seen) c.loop.invariant.same.0.0 (c.hear_first.ensures.begun c.if-hear_first.true)

pub loop-preserved : goal.loop-preserved
loop-preserved g c = record {
  started = ap (is_started (g.D.Door.view c.hear_first.new.door).seen) c.hear_first.ensures.same.0.0 ∙ started_on c.loop.self.ear.child c.hear_first.ensures.moved c.loop.invariant.started;
  moved = moved_then by_link is_of_child c.loop.invariant.door.number c.loop.invariant.door.alone c.loop.invariant.same.0.0 c.loop.invariant.moved c.hear_first.ensures.moved;
  same = ((c.hear_first.ensures.same.0.0 ∙ c.loop.invariant.same.0.0, c.hear_first.ensures.same.0.1 ∙ c.loop.invariant.same.0.1), (c.hear_first.ensures.same.1.0 ∙ c.loop.invariant.same.1.0, c.hear_first.ensures.same.1.1 ∙ c.loop.invariant.same.1.1));
  door = same_both c.loop.invariant.door c.hear_first.ensures.door;
}

pub returns-clause-moved : goal.returns-clause-moved
returns-clause-moved g c = moved_then by_link is_of_child c.loop.invariant.door.number c.loop.invariant.door.alone c.loop.invariant.same.0.0 c.loop.invariant.moved c.give_up.ensures.moved

pub returns-clause-door : goal.returns-clause-door
returns-clause-door g c = same_both c.loop.invariant.door c.give_up.ensures.door

pub returns-clause-begun : goal.returns-clause-begun
returns-clause-begun g c = inl (ap (is_ended (g.D.Door.view c.give_up.new.door).seen) (sym c.loop.invariant.same.0.0) ∙ c.give_up.ensures.over)
