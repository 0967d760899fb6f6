use Rattle.std.proofs.Common.{◌<◌, ◌-◌, sym, subst, map, vec_capacity, vec_len, arith}
use Rattle.mirror_children.specs.Children.{ChildValue, IsLinked, child_value}
use Rattle.mirror_remote.specs.Starts.Stops.{StoppedValue, Stops, log_of}
use Rattle.mirror_remote.proofs.StartsLemmas.Adding.{stopped_kept, stops}
use Rattle.mirror_remote.proofs.StartsLemmas.Stopping.{may_close}
use Rattle.mirror_remote.proofs.starts.stopped.stop.Goals as goal

pub close_child-requires-clause-idle : goal.close_child-requires-clause-idle
close_child-requires-clause-idle g c =
    let i = c.child.inside in
    let l : IsLinked (child_value i.number i.core i.link.ear i.link.mouth) = subst IsLinked (sym c.child.view_is) c.requires.linked in
    may_close (child_value i.number i.core i.link.ear i.link.mouth) i.link.ear.child l.child l

pub invariant_of-stopped : goal.invariant_of-stopped
invariant_of-stopped g c =
    let i = c.child.inside in
    let s = c.stopped.inside in
    let l : IsLinked (child_value i.number i.core i.link.ear i.link.mouth) = subst IsLinked (sym c.child.view_is) c.requires.linked in
    stopped_kept (child_value i.number i.core i.link.ear i.link.mouth) c.close_child.new.core s.cores.items c.push_reserved.new.self.items s.wires.items c.finish.new.wires.items
    l c.push_reserved.ensures.items c.close_child.ensures.core.opening c.close_child.ensures.closes (c.close_child.ensures.core.legal l.legal) (c.close_child.ensures.wired l.wired) c.finish.ensures.laid
    (vec_len s.cores) (vec_len c.push_reserved.new.self) (vec_len s.wires) (vec_len c.finish.new.wires) (vec_len s.journals)
    (vec_capacity s.cores) (vec_capacity c.push_reserved.new.self) (vec_capacity s.wires) (vec_capacity c.finish.new.wires) (vec_capacity s.journals) s.spare
    (subst (λ (x : StoppedValue). 0 < x.spare) (sym c.stopped.view_is) c.requires.room)
    c.push_reserved.ensures.len c.push_reserved.ensures.capacity c.finish.ensures.room.0 c.finish.ensures.room.1 c.stopped.invariant

pub returns-clause-stops : goal.returns-clause-stops
returns-clause-stops g c =
    let i = c.child.inside in
    let s = c.stopped.inside in
    let l : IsLinked (child_value i.number i.core i.link.ear i.link.mouth) = subst IsLinked (sym c.child.view_is) c.requires.linked in
    let new : StoppedValue = record { logs = map log_of c.push_reserved.new.self.items; wires = c.finish.new.wires.items; spare = s.spare - 1 } in
    let some : 0 < s.spare = subst (λ (x : StoppedValue). 0 < x.spare) (sym c.stopped.view_is) c.requires.room in
    subst (λ (d : ChildValue). Stops d c.args.stopped.now new) c.child.view_is
    (subst (λ (x : StoppedValue). Stops (child_value i.number i.core i.link.ear i.link.mouth) x new) c.stopped.view_is
    (stops (child_value i.number i.core i.link.ear i.link.mouth) c.close_child.new.core s.cores.items c.push_reserved.new.self.items s.wires.items c.finish.new.wires.items
    l c.push_reserved.ensures.items c.close_child.ensures.core.opening c.close_child.ensures.closes (c.close_child.ensures.core.legal l.legal) (c.close_child.ensures.wired l.wired) c.finish.ensures.laid
    s.spare (s.spare - 1) (omega (arith, some))))
