use Rattle.std.proofs.Common.{◌≡◌, ◌∙◌, refl, sym, subst, true, map, arith}
use Rattle.threads.specs.Passes.{seen_of}
use Rattle.child_link.specs.Moves.{IsSameLink}
use Rattle.child_link.specs.Writings.{LoneWired}
use Rattle.crew_rounds.specs.Tagged.Roles.{CanWork, WorkerRan}
use Rattle.crew_rounds.specs.Tagged.Tagged.{AreFresh, link_of}
use Rattle.crew_rounds.proofs.TaggedLemmas.Backs.{fresh_own}
use Rattle.crew_rounds.proofs.TaggedLemmas.Leaving.{may_all, may_work}
use Rattle.threads.proofs.RolesLemmas.Dealing.{pairwise_length}
use Rattle.crew_rounds.specs.Tagged.PoolChildren.{MayServe}
use Rattle.crew_rounds.specs.Pool.Sites.{IsAt}
use Rattle.crew_rounds.proofs.PoolLemmas.Backs.{links_still, lone_so}
use Rattle.crew_rounds.proofs.PoolLemmas.Leaving.{played, serving}
use Rattle.crew_rounds.proofs.pool.played.play.Goals as goal

pub returns-in_default-clause-own : goal.returns-in_default-clause-own
returns-in_default-clause-own g c = (fresh_own c.args.site.now.hall.now 1 c.args.kit.passes.items c.requires.may.fresh, refl)

pub returns-in_default-clause-same : goal.returns-in_default-clause-same
returns-in_default-clause-same g c = (links_still (map (λ l. link_of l.ear l.mouth) c.args.kit.links.items), refl)

pub run_workers-backs-requires-clause-can : goal.run_workers-backs-requires-clause-can
run_workers-backs-requires-clause-can g c κs within =
    let k = c.cast-workers.ensures in
    let h = c.args.site.now.hall.now in
    let fresh = subst (AreFresh h 1) k.passes c.requires.may.fresh in
    may_all (λ w. w.pass) h
    (λ w. IsAt c.args.site.now w × MayServe h.fixed h.start (link_of w.way.ear w.way.mouth))
    (λ w. CanWork w.hall.now w.pass w.tasks.now w.setup.now w.way.ear.child)
    (λ w p f. may_work h _ _ _ _ _ _ _ _ p.0.hall p.0.tasks p.0.setup refl f c.requires.may.run p.1.serves)
    2 c.cast-workers.result.0.items
    (serving (λ w. w.way) (λ l. link_of l.ear l.mouth) (IsAt c.args.site.now) (MayServe h.fixed h.start)
    c.cast-workers.result.0.items c.args.kit.links.items k.links k.placed c.requires.may.can.each)
    fresh.1

pub gather-requires : goal.gather-requires
gather-requires g c =
    let k = c.cast-workers.ensures in
    let same = pairwise_length _ _ _ c.run_workers-backs.ensures in
    let passes = k.rooms.0 in
    let links = k.rooms.1 in
    let desks = k.rooms.2 in
    record {
      rooms = (
        record { none = passes.none; room = omega (arith, same, passes.room, c.cast-workers.result.0.ok.0, c.run_workers-backs.result.0.ok.0) },
        record { none = links.none; room = omega (arith, same, links.room, c.cast-workers.result.0.ok.0, c.run_workers-backs.result.0.ok.0) },
        record { none = desks.none; room = omega (arith, same, desks.room, c.cast-workers.result.0.ok.0, c.run_workers-backs.result.0.ok.0) },
      );
    }

pub returns : goal.returns
returns g c =
    let k = c.cast-workers.ensures in
    let b = c.gather.ensures in
    let p = played (λ w. w.pass) (λ w. w.way) (λ w. w.desk) (λ l. link_of l.ear l.mouth) g.K.Desk.told
    (λ x y. WorkerRan x.hall.now x.setup.now x.pass y.pass true x.way.ear.child (LoneWired (seen_of x.pass) x.way.ear x.way.mouth) (LoneWired (seen_of y.pass) y.way.ear y.way.mouth)
    (g.K.Desk.told x.desk) (g.K.Desk.told y.desk)
    × (y.way.ear.child ≡ x.way.ear.child) × (true ≡ true) × IsSameLink x.way.ear y.way.ear x.way.mouth y.way.mouth)
    c.args.site.now.hall.now c.args.site.now.setup.now
    (IsAt c.args.site.now)
    c.cast-workers.result.1.main c.cast-workers.result.0.items c.args.kit.passes.items c.args.kit.links.items c.args.kit.desks.items
    (record {
      works = λ w v at r. (lone_so _ _ _ _ _ _ _ _ _ _ _ at.hall at.setup r.0, r.3);
      one_child = λ w. w.way.one_child;
      placed = k.placed;
      passes_are = k.passes;
      links_are = k.links;
      desks_are = k.desks;
      fresh = c.requires.may.fresh;
    })
    c.run_workers-backs.result.0.items c.run_workers-backs.ensures c.run_workers-backs.result.1 c.gather.result.passes.items c.gather.result.links.items c.gather.result.desks.items c.outcome_of-outcome.result
    b.passes b.links b.desks c.outcome_of-outcome.ensures in
    record { own = p.0; left = p.1; kept = p.2; same = (p.3.0, c.gather.result.desks.ok.0 ∙ p.3.1 ∙ sym c.args.kit.desks.ok.0) }
