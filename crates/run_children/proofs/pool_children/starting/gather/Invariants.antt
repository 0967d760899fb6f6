use Rattle.std.proofs.Common.{◌≤◌, map, vec_capacity}
use Rattle.child_life.specs.Start.Cores.{IsSameCore}
use Rattle.crew_rounds.specs.Tagged.Tagged.{link_of}
use Rattle.run_children.specs.PoolChildren.Pools.{seat_value}
use Rattle.run_children.proofs.PoolChildrenLemmas.Standing.{Standing}
use Rattle.run_children.proofs.pool_children.starting.gather.Given as goal

abbrev pub invariant-slots : goal.invariant-slots
invariant-slots g l = record {
  standing : Standing l.fn.core.opening l.jobs l.program l.fn.core.journal l.core.journal (link_of l.fn.link.ear l.fn.link.mouth) (g.P.Programs.told l.fn.programs) (g.P.Programs.told l.programs)
      (map seat_value l.pool.seats.items)
      (map (λ x. link_of x.ear x.mouth) l.pool.links.items) l.slot;
  core : IsSameCore l.fn.core l.core;
  room : (l.most ≤ vec_capacity l.pool.links) × (l.most ≤ vec_capacity l.pool.seats);
}
