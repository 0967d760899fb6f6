use Rattle.std.proofs.Common.{◌∙◌, sym, subst, List, arith}
use Rattle.std.specs.Vec.Iter.{into_iter_items}
use Rattle.mirror_children.specs.Children.{ChildValue}
use Rattle.mirror_remote.specs.Starts.Stops.{StopsAll}
use Rattle.mirror_remote.proofs.StartsLemmas.Passing.{next_linked, next_room}
use Rattle.mirror_remote.proofs.StartsLemmas.Stopping.{stops_next}
use Rattle.mirror_remote.proofs.starts.stopped.stop_all.Goals as goal
use Rattle.ann_outside.proofs.Across.{stays_both}
use Rattle.ann_key.proofs.Lists.{all_passed, next_passed}

pub stop-requires-clause-linked : goal.stop-requires-clause-linked
stop-requires-clause-linked g c κs within =
    next_linked c.args.children.items c.loop-child.yielded _ _ c.in-Some.child c.requires.linked c.loop-child.invariant.all c.in-Some.ensures.steps.0

pub stop-requires-clause-room : goal.stop-requires-clause-room
stop-requires-clause-room g c κs within =
    next_room c.args.children.items c.loop-child.yielded _ _ c.in-Some.child c.args.stopped.now c.loop-child.stopped c.requires.room c.loop-child.invariant.all c.in-Some.ensures.steps.0 c.loop-child.invariant.stops

pub loop-child-preserved : goal.loop-child-preserved
loop-child-preserved g c =
    let a = c.loop-child.invariant in
    let s = c.stop.ensures in
    record {
      all = next_passed c.loop-child.yielded c.in-Some.child c.args.children.items _ _ a.all c.in-Some.ensures.steps.0;
      stops = stops_next c.loop-child.yielded c.in-Some.child c.args.stopped.now c.loop-child.stopped c.stop.new.stopped a.stops s.stops;
      starts = stays_both (g.P.Programs.told c.args.programs.now).starts (g.P.Programs.told c.loop-child.programs).starts (g.P.Programs.told c.stop.new.programs).starts a.starts s.starts;
      later = (let was = a.later in let now = s.later in omega (arith, was, now));
    }

pub returns-clause-stops : goal.returns-clause-stops
returns-clause-stops g c =
    let a = c.loop-child.invariant in
    subst (λ (cs : List ChildValue). StopsAll cs c.args.stopped.now c.loop-child.stopped)
    (all_passed c.loop-child.yielded c.args.children.items (into_iter_items c.loop-child.child-iterator) a.all (sym c.loop-child.child-iterator.rest.ok.0 ∙ c.in-None.ensures.steps.0)) a.stops
