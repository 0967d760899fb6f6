use Rattle.std.proofs.Common.{refl, sym, ap, ◌∙◌}
use Rattle.journal_model.specs.declared.verdict.Why.TheVariants.{Memory}
use Rattle.child_link.proofs.Roles.{moved_then, same_both, started_on}
use Rattle.child_link.proofs.Hearing.{ear_gives_up}
use Rattle.journal_model.specs.Shares.{by_ear, is_heard}
use Rattle.journal_model.specs.Journal.{is_started, is_ended}
use Rattle.host_core.specs.declared.event.Reply.TheVariants.{Over}
use Rattle.child_link.proofs.Hearing.{says_listen, ended_listen}
use Rattle.child_link.proofs.ear.Ear.run.Goals as goal

pub returns-then-not-go_on-clause-moved : goal.returns-then-not-go_on-clause-moved
returns-then-not-go_on-clause-moved g c = moved_then by_ear is_heard c.loop.invariant.door.number c.loop.invariant.door.alone c.loop.invariant.same.0 c.loop.invariant.moved c.go_on.ensures.moved

pub returns-then-not-go_on-clause-door : goal.returns-then-not-go_on-clause-door
returns-then-not-go_on-clause-door g c = same_both c.loop.invariant.door c.go_on.ensures.door

pub returns-then-not-go_on-clause-over : goal.returns-then-not-go_on-clause-over
returns-then-not-go_on-clause-over g c = says_listen (g.D.Door.view c.go_on.new.door).seen Over c.loop.invariant.door.opening c.loop.invariant.door.number c.loop.invariant.same.0 (c.go_on.ensures.over c.if-not-go_on.true)

pub loop-preserved : goal.loop-preserved
loop-preserved g c = record {
  started = ap (is_started (g.D.Door.view c.go_on.new.door).seen) c.go_on.ensures.same.0 ∙ started_on c.loop.self.child c.go_on.ensures.moved c.loop.invariant.started;
  moved = moved_then by_ear is_heard c.loop.invariant.door.number c.loop.invariant.door.alone c.loop.invariant.same.0 c.loop.invariant.moved c.go_on.ensures.moved;
  same = (c.go_on.ensures.same.0 ∙ c.loop.invariant.same.0, c.go_on.ensures.same.1 ∙ c.loop.invariant.same.1);
  door = same_both c.loop.invariant.door c.go_on.ensures.door;
}

pub returns-clause-moved : goal.returns-clause-moved
returns-clause-moved g c = moved_then by_ear is_heard c.loop.invariant.door.number c.loop.invariant.door.alone c.loop.invariant.same.0 c.loop.invariant.moved (ear_gives_up c.loop.self c.child-child.result c.child-child.ensures Memory refl refl tt c.stop.ensures.ends)

pub returns-clause-door : goal.returns-clause-door
returns-clause-door g c = same_both c.loop.invariant.door c.stop.ensures.door

pub returns-clause-over : goal.returns-clause-over
returns-clause-over g c =
    ended_listen (g.D.Door.view c.args.door.now).opening (g.D.Door.view c.args.door.now).number c.args.self.now.child (g.D.Door.view c.stop.new.door).seen
    (started_on c.args.self.now.child (returns-clause-moved g c) c.requires.started)
    (ap (is_ended (g.D.Door.view c.stop.new.door).seen) (sym (c.child-child.ensures ∙ c.loop.invariant.same.0)) ∙ c.stop.ensures.over)
