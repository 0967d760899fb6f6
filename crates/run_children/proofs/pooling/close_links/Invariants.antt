use Rattle.std.proofs.Common.{map, take}
use Rattle.child_life.specs.Start.Cores.{IsSameCore}
use Rattle.crew_rounds.specs.Tagged.Tagged.{link_of}
use Rattle.crew_work.specs.Laws.Laws.{children_of}
use Rattle.run_children.specs.PoolSteps.{ClosesAll}
use Rattle.run_children.proofs.pooling.close_links.Given as goal

abbrev pub invariant-closings : goal.invariant-closings
invariant-closings g l = record {
  closes : ClosesAll (take l.link-index (children_of (map (λ x. link_of x.ear x.mouth) l.links))) l.initial.core.journal l.core.journal;
  core : IsSameCore l.initial.core l.core;
}
