use Rattle.std.proofs.Common.{◌≡◌, ◌≤◌, ◌++◌}
use Rattle.std.specs.Vec.Iter.{into_iter_items}
use Rattle.ann_outside.specs.Causes.{Stays}
use Rattle.mirror_remote.specs.Starts.Stops.{StopsAll}
use Rattle.mirror_remote.proofs.starts.stopped.stop_all.Given as goal

-- those so far were stopped
abbrev pub invariant-loop-child : goal.invariant-loop-child
invariant-loop-child g l = record {
  all : l.fn.children.items ≡ l.yielded ++ into_iter_items l.child-iterator;
  stops : StopsAll l.yielded l.fn.stopped l.stopped;
  starts : Stays (g.P.Programs.told l.fn.programs).starts (g.P.Programs.told l.programs).starts;
  later : (g.P.Programs.told l.fn.programs).faults ≤ (g.P.Programs.told l.programs).faults;
}
