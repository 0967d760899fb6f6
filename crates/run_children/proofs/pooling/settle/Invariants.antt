use Rattle.std.proofs.Common.{◌≡◌, ◌≤◌, ◌+◌, vec_len, vec_capacity}
use Rattle.ann_outside.specs.Causes.{Stays}
use Rattle.crew_rounds.specs.Tagged.Tagged.{link_of}
use Rattle.run_children.specs.PoolChildren.Pools.{seat_value}
use Rattle.run_children.proofs.PoolLinks.{Laying}
use Rattle.run_children.proofs.pooling.settle.Given as goal

abbrev pub invariant-seats : goal.invariant-seats
invariant-seats g l = record {
  laying : Laying seat_value
      (λ x. link_of x.ear x.mouth) l.initial.seats.items l.seats.items l.initial.links.items l.links.items l.initial.wires.items l.wires.items;
  room : (vec_len l.wires + vec_len l.seats ≡ vec_len l.initial.wires + vec_len l.initial.seats) × (vec_capacity l.wires ≡ vec_capacity l.initial.wires);
  starts : Stays (g.P.Programs.told l.initial.programs).starts (g.P.Programs.told l.programs).starts;
  later : (g.P.Programs.told l.initial.programs).faults ≤ (g.P.Programs.told l.programs).faults;
}

abbrev pub decreases-seats : goal.decreases-seats
decreases-seats g l = vec_len l.seats
