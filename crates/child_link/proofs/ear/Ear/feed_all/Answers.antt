use Rattle.std.proofs.Common.{ap, ◌∙◌}
use Rattle.child_link.proofs.Roles.{moved_then, same_both, started_on}
use Rattle.journal_model.specs.Shares.{by_ear, is_heard}
use Rattle.journal_model.specs.Journal.{is_started}
use Rattle.journal_model.specs.Halves.{EarValue}
use Rattle.child_link.proofs.Hearing.{the_next, less_then, all_fed}
use Rattle.child_link.proofs.ear.Ear.feed_all.Goals as goal

pub returns-clause-moved : goal.returns-clause-moved
returns-clause-moved g c = moved_then by_ear is_heard c.loop.invariant.door.number c.loop.invariant.door.alone c.loop.invariant.same.0 c.loop.invariant.moved c.feed_next.ensures.moved

pub returns-clause-door : goal.returns-clause-door
returns-clause-door g c = same_both c.loop.invariant.door c.feed_next.ensures.door

pub loop-preserved : goal.loop-preserved
loop-preserved g c = record {
  started = ap (is_started (g.D.Door.view c.feed_next.new.door).seen) c.feed_next.ensures.same.0 ∙ started_on c.loop.self.child c.feed_next.ensures.moved c.loop.invariant.started;
  moved = moved_then by_ear is_heard c.loop.invariant.door.number c.loop.invariant.door.alone c.loop.invariant.same.0 c.loop.invariant.moved c.feed_next.ensures.moved;
  same = (c.feed_next.ensures.same.0 ∙ c.loop.invariant.same.0, c.feed_next.ensures.same.1 ∙ c.loop.invariant.same.1);
  door = same_both c.loop.invariant.door c.feed_next.ensures.door;
  only = (the_next c.loop.self c.feed_next.new.self (g.D.Door.view c.feed_next.new.door).seen c.feed_next.result c.loop-test.true c.feed_next.ensures.next).same ∙ ap (λ (v : EarValue). record v { held = c.feed_next.new.self.held }) c.loop.invariant.only;
  fewer = less_then (the_next c.loop.self c.feed_next.new.self (g.D.Door.view c.feed_next.new.door).seen c.feed_next.result c.loop-test.true c.feed_next.ensures.next).fewer c.loop.invariant.fewer;
}

pub returns-clause-all : goal.returns-clause-all
returns-clause-all g c =
    all_fed c.args.self.now c.loop.self c.feed_next.new.self (g.D.Door.view c.feed_next.new.door).seen c.feed_next.result c.loop-test.false c.loop.invariant.only c.loop.invariant.fewer c.feed_next.ensures.next
