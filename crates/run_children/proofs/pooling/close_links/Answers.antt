use Rattle.std.proofs.Common.{◌≡◌, map, sym, subst, take, true}
use Rattle.journal_model.specs.Journal.{is_started}
use Rattle.crew_rounds.specs.Tagged.Tagged.{link_of}
use Rattle.crew_work.specs.Laws.Laws.{children_of}
use Rattle.run_starts.proofs.Ending.{cores_both}
use Rattle.run_children.proofs.PoolLinks.{closes_one_more, closing_may}
use Rattle.run_children.proofs.pooling.close_links.Goals as goal

pub close_child-requires-clause-started : goal.close_child-requires-clause-started
close_child-requires-clause-started g c =
    (closing_may (take c.closings.link-index (children_of (map (λ x. link_of x.ear x.mouth) c.args.links.now))) c.args.core.now.journal c.closings.core.journal c.link-item.result.ear.child c.closings.invariant.closes c.requires.calm
    (subst (λ x. is_started c.args.core.now.journal x.ear.child ≡ true) (sym c.link-item.is) (c.requires.started c.closings.link-index c.link-item.result c.closings-test.true))).0

pub close_child-requires-clause-idle : goal.close_child-requires-clause-idle
close_child-requires-clause-idle g c =
    (closing_may (take c.closings.link-index (children_of (map (λ x. link_of x.ear x.mouth) c.args.links.now))) c.args.core.now.journal c.closings.core.journal c.link-item.result.ear.child c.closings.invariant.closes c.requires.calm
    (subst (λ x. is_started c.args.core.now.journal x.ear.child ≡ true) (sym c.link-item.is) (c.requires.started c.closings.link-index c.link-item.result c.closings-test.true))).1

pub closings-preserved : goal.closings-preserved
closings-preserved g c = record {
  closes = closes_one_more (λ x. link_of x.ear x.mouth) c.args.links.now c.closings.link-index c.link-item.result c.args.core.now.journal c.closings.core.journal c.close_child.new.core.journal c.closings-test.true c.link-item.is
      c.closings.invariant.closes c.close_child.ensures.closes;
  core = cores_both c.closings.invariant.core c.close_child.ensures.core;
}
