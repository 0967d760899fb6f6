use Rattle.std.proofs.Common.{◌≡◌, ℕ, ◌∙◌, refl, sym, ap, subst, false, arith}
use Rattle.std.specs.Prelude.{◌||◌}
use Rattle.std.specs.List.{list_any}
use Rattle.journal_model.specs.Halves.{EarValue, MouthValue}
use Rattle.threads.specs.Roles.BackRole.{has_run}
use Rattle.crew_rounds.specs.Tagged.Roles.{CanHold, CanWork, EarRan, MouthRan, WorkerRan}
use Rattle.crew_rounds.specs.Tagged.Settled.{Settles}
use Rattle.crew_rounds.specs.Tagged.Sites.{IsAt}
use Rattle.crew_rounds.specs.Tagged.Tagged.{AreFresh, TaggedCan, link_of}
use Rattle.crew_rounds.proofs.TaggedLemmas.Backs.{fresh_own}
use Rattle.crew_rounds.proofs.TaggedLemmas.Leaving.{ear_so, mouth_so, worker_so, may_hold, may_work, may_all, fresh_start, one_left, played_own, played_left, played_kept, played_same}
use Rattle.threads.proofs.RolesLemmas.Dealing.{pairwise_length}
use Rattle.crew_rounds.proofs.tagged.played.play.Goals as goal

pub returns-in_default-clause-own : goal.returns-in_default-clause-own
returns-in_default-clause-own g c = (fresh_own c.args.site.now.hall.now 1 c.args.kit.passes.items c.requires.may.fresh, refl)

pub run_crew-backs-requires-clause-can : goal.run_crew-backs-requires-clause-can
run_crew-backs-requires-clause-can g c κs within =
    let k = c.cast-crew.ensures in
    let h = c.args.site.now.hall.now in
    let fresh = subst (AreFresh h 1) k.passes c.requires.may.fresh in
    let ear_child = ap (λ (e : EarValue). e.child) k.link.0 in
    let mouth_child = ap (λ (m : MouthValue). m.child) k.link.1 ∙ c.args.kit.link.one_child in (
      subst (λ (n : ℕ). CanHold c.cast-crew.result.0.ear.hall.now c.cast-crew.result.0.ear.pass n) (sym ear_child) (may_hold h _ _ _ k.placed.0 fresh.1.0.0 c.requires.may.can.serves.started),
      subst (λ (n : ℕ). CanHold c.cast-crew.result.0.mouth.hall.now c.cast-crew.result.0.mouth.pass n) (sym mouth_child) (may_hold h _ _ _ k.placed.1 fresh.1.1.0.0 c.requires.may.can.serves.started),
      may_all (λ w. w.pass) h (IsAt c.args.site.now)
          (λ w. CanWork w.hall.now w.pass w.tasks.now w.setup.now w.way.child)
          (λ w p f. may_work h _ _ _ _ _ _ _ _ p.hall p.tasks p.setup (p.child ∙ c.requires.child) f c.requires.may.run c.requires.may.can.serves)
          4 c.cast-crew.result.0.workers.items k.placed.2 fresh.1.1.1,
    )

pub settle-outcome-requires-clause-started : goal.settle-outcome-requires-clause-started
settle-outcome-requires-clause-started g c =
    let h = c.args.site.now.hall.now in
    let fresh = subst (AreFresh h 1) c.cast-crew.ensures.passes c.requires.may.fresh in
    (may_hold h h _ _ refl fresh.0.0 (subst (λ (n : ℕ). fresh_start h n) (sym c.requires.child) c.requires.may.can.serves.started)).started

pub gather-requires-clause-rooms : goal.gather-requires-clause-rooms
gather-requires-clause-rooms g c =
    let k = c.cast-crew.ensures in
    let same = pairwise_length _ _ _ c.run_crew-backs.ensures.workers in
    let passes = k.rooms.0 in
    let desks = k.rooms.1 in (
      record { none = passes.none; room = omega (arith, same, passes.room, c.cast-crew.result.0.workers.ok.0, c.run_crew-backs.result.0.workers.ok.0) },
      record { none = desks.none; room = omega (arith, same, desks.room, c.cast-crew.result.0.workers.ok.0, c.run_crew-backs.result.0.workers.ok.0) },
    )

pub gather-requires-clause-one_child : goal.gather-requires-clause-one_child
gather-requires-clause-one_child g c = one_left (λ x. x.pass) (λ x. x.ear) (λ x. x.pass) (λ x. x.mouth) (λ x. x.pass) (λ x. x.desk) g.K.Desk.told
    (λ x y. EarRan x.hall.now x.pass y.pass x.ear y.ear) (λ x y. MouthRan x.hall.now x.pass y.pass x.mouth y.mouth)
    (λ x y. WorkerRan x.hall.now x.setup.now x.pass y.pass false x.way.child (Unit {0}) (Unit {0}) (g.K.Desk.told x.desk) (g.K.Desk.told y.desk) × (y.way.child ≡ x.way.child) × (false ≡ false) × (y.way.child ≡ x.way.child))
    c.args.site.now.hall.now c.args.site.now.setup.now
    (IsAt c.args.site.now)
    c.cast-crew.result.1.main c.cast-crew.result.0.ear c.cast-crew.result.0.mouth c.cast-crew.result.0.workers.items c.args.kit.passes.items c.args.kit.desks.items
    (record {
      hears = λ x r. ear_so _ _ _ _ _ _ c.cast-crew.ensures.placed.0 r;
      speaks = λ x r. mouth_so _ _ _ _ _ _ c.cast-crew.ensures.placed.1 r;
      works = λ w v p r. worker_so _ _ _ _ _ _ _ _ _ _ p.hall p.setup (p.child ∙ c.requires.child ∙ sym (ap (λ (e : EarValue). e.child) c.cast-crew.ensures.link.0)) r.0;
      placed = c.cast-crew.ensures.placed.2;
      passes_are = c.cast-crew.ensures.passes;
      desks_are = c.cast-crew.ensures.desks;
      fresh = c.requires.may.fresh;
      can = subst (λ (e : EarValue). TaggedCan c.args.site.now.hall.now.fixed c.args.site.now.hall.now.start (link_of e c.cast-crew.result.0.mouth.mouth)) (sym c.cast-crew.ensures.link.0)
          (subst (λ (m : MouthValue). TaggedCan c.args.site.now.hall.now.fixed c.args.site.now.hall.now.start (link_of c.args.kit.link.ear m)) (sym c.cast-crew.ensures.link.1) c.requires.may.can);
      one_child = ap (λ (m : MouthValue). m.child) c.cast-crew.ensures.link.1 ∙ c.args.kit.link.one_child ∙ sym (ap (λ (e : EarValue). e.child) c.cast-crew.ensures.link.0);
    })
    c.run_crew-backs.result.0.ear c.run_crew-backs.result.0.mouth c.run_crew-backs.result.0.workers.items c.run_crew-backs.ensures.ear c.run_crew-backs.ensures.mouth c.run_crew-backs.ensures.workers

pub returns-clause-own : goal.returns-clause-own
returns-clause-own g c = played_own (λ x. x.pass) (λ x. x.ear) (λ x. x.pass) (λ x. x.mouth) (λ x. x.pass) (λ x. x.desk) g.K.Desk.told
    (λ x y. EarRan x.hall.now x.pass y.pass x.ear y.ear) (λ x y. MouthRan x.hall.now x.pass y.pass x.mouth y.mouth)
    (λ x y. WorkerRan x.hall.now x.setup.now x.pass y.pass false x.way.child (Unit {0}) (Unit {0}) (g.K.Desk.told x.desk) (g.K.Desk.told y.desk) × (y.way.child ≡ x.way.child) × (false ≡ false) × (y.way.child ≡ x.way.child))
    c.args.site.now.hall.now c.args.site.now.setup.now
    (IsAt c.args.site.now)
    c.cast-crew.result.1.main c.cast-crew.result.0.ear c.cast-crew.result.0.mouth c.cast-crew.result.0.workers.items c.args.kit.passes.items c.args.kit.desks.items
    (record {
      hears = λ x r. ear_so _ _ _ _ _ _ c.cast-crew.ensures.placed.0 r;
      speaks = λ x r. mouth_so _ _ _ _ _ _ c.cast-crew.ensures.placed.1 r;
      works = λ w v p r. worker_so _ _ _ _ _ _ _ _ _ _ p.hall p.setup (p.child ∙ c.requires.child ∙ sym (ap (λ (e : EarValue). e.child) c.cast-crew.ensures.link.0)) r.0;
      placed = c.cast-crew.ensures.placed.2;
      passes_are = c.cast-crew.ensures.passes;
      desks_are = c.cast-crew.ensures.desks;
      fresh = c.requires.may.fresh;
      can = subst (λ (e : EarValue). TaggedCan c.args.site.now.hall.now.fixed c.args.site.now.hall.now.start (link_of e c.cast-crew.result.0.mouth.mouth)) (sym c.cast-crew.ensures.link.0)
          (subst (λ (m : MouthValue). TaggedCan c.args.site.now.hall.now.fixed c.args.site.now.hall.now.start (link_of c.args.kit.link.ear m)) (sym c.cast-crew.ensures.link.1) c.requires.may.can);
      one_child = ap (λ (m : MouthValue). m.child) c.cast-crew.ensures.link.1 ∙ c.args.kit.link.one_child ∙ sym (ap (λ (e : EarValue). e.child) c.cast-crew.ensures.link.0);
    })
    c.run_crew-backs.result.0.ear c.run_crew-backs.result.0.mouth c.run_crew-backs.result.0.workers.items c.run_crew-backs.ensures.ear c.run_crew-backs.ensures.mouth c.run_crew-backs.ensures.workers
    c.args.kit.link.ear c.gather.result.link.ear c.args.kit.link.mouth c.gather.result.link.mouth c.gather.result.passes.items c.gather.result.desks.items c.settle-outcome.new.main c.settle-outcome.result
    c.cast-crew.ensures.link.0 c.cast-crew.ensures.link.1 c.gather.ensures.passes c.gather.ensures.desks c.gather.ensures.link.0 c.gather.ensures.link.1
    (subst (λ (n : ℕ). Settles c.args.site.now.hall.now n (list_any has_run c.run_crew-backs.result.0.workers.items) (has_run c.run_crew-backs.result.0.ear || has_run c.run_crew-backs.result.0.mouth) c.cast-crew.result.1.main c.settle-outcome.new.main c.settle-outcome.result)
    (c.requires.child ∙ sym (ap (λ (e : EarValue). e.child) c.cast-crew.ensures.link.0)) c.settle-outcome.ensures)

pub returns-clause-left : goal.returns-clause-left
returns-clause-left g c = played_left (λ x. x.pass) (λ x. x.ear) (λ x. x.pass) (λ x. x.mouth) (λ x. x.pass) (λ x. x.desk) g.K.Desk.told
    (λ x y. EarRan x.hall.now x.pass y.pass x.ear y.ear) (λ x y. MouthRan x.hall.now x.pass y.pass x.mouth y.mouth)
    (λ x y. WorkerRan x.hall.now x.setup.now x.pass y.pass false x.way.child (Unit {0}) (Unit {0}) (g.K.Desk.told x.desk) (g.K.Desk.told y.desk) × (y.way.child ≡ x.way.child) × (false ≡ false) × (y.way.child ≡ x.way.child))
    c.args.site.now.hall.now c.args.site.now.setup.now
    (IsAt c.args.site.now)
    c.cast-crew.result.1.main c.cast-crew.result.0.ear c.cast-crew.result.0.mouth c.cast-crew.result.0.workers.items c.args.kit.passes.items c.args.kit.desks.items
    (record {
      hears = λ x r. ear_so _ _ _ _ _ _ c.cast-crew.ensures.placed.0 r;
      speaks = λ x r. mouth_so _ _ _ _ _ _ c.cast-crew.ensures.placed.1 r;
      works = λ w v p r. worker_so _ _ _ _ _ _ _ _ _ _ p.hall p.setup (p.child ∙ c.requires.child ∙ sym (ap (λ (e : EarValue). e.child) c.cast-crew.ensures.link.0)) r.0;
      placed = c.cast-crew.ensures.placed.2;
      passes_are = c.cast-crew.ensures.passes;
      desks_are = c.cast-crew.ensures.desks;
      fresh = c.requires.may.fresh;
      can = subst (λ (e : EarValue). TaggedCan c.args.site.now.hall.now.fixed c.args.site.now.hall.now.start (link_of e c.cast-crew.result.0.mouth.mouth)) (sym c.cast-crew.ensures.link.0)
          (subst (λ (m : MouthValue). TaggedCan c.args.site.now.hall.now.fixed c.args.site.now.hall.now.start (link_of c.args.kit.link.ear m)) (sym c.cast-crew.ensures.link.1) c.requires.may.can);
      one_child = ap (λ (m : MouthValue). m.child) c.cast-crew.ensures.link.1 ∙ c.args.kit.link.one_child ∙ sym (ap (λ (e : EarValue). e.child) c.cast-crew.ensures.link.0);
    })
    c.run_crew-backs.result.0.ear c.run_crew-backs.result.0.mouth c.run_crew-backs.result.0.workers.items c.run_crew-backs.ensures.ear c.run_crew-backs.ensures.mouth c.run_crew-backs.ensures.workers
    c.args.kit.link.ear c.gather.result.link.ear c.args.kit.link.mouth c.gather.result.link.mouth c.gather.result.passes.items c.gather.result.desks.items c.settle-outcome.new.main c.settle-outcome.result
    c.cast-crew.ensures.link.0 c.cast-crew.ensures.link.1 c.gather.ensures.passes c.gather.ensures.desks c.gather.ensures.link.0 c.gather.ensures.link.1
    (subst (λ (n : ℕ). Settles c.args.site.now.hall.now n (list_any has_run c.run_crew-backs.result.0.workers.items) (has_run c.run_crew-backs.result.0.ear || has_run c.run_crew-backs.result.0.mouth) c.cast-crew.result.1.main c.settle-outcome.new.main c.settle-outcome.result)
    (c.requires.child ∙ sym (ap (λ (e : EarValue). e.child) c.cast-crew.ensures.link.0)) c.settle-outcome.ensures)

pub returns-clause-kept : goal.returns-clause-kept
returns-clause-kept g c = played_kept (λ x. x.pass) (λ x. x.ear) (λ x. x.pass) (λ x. x.mouth) (λ x. x.pass) (λ x. x.desk) g.K.Desk.told
    (λ x y. EarRan x.hall.now x.pass y.pass x.ear y.ear) (λ x y. MouthRan x.hall.now x.pass y.pass x.mouth y.mouth)
    (λ x y. WorkerRan x.hall.now x.setup.now x.pass y.pass false x.way.child (Unit {0}) (Unit {0}) (g.K.Desk.told x.desk) (g.K.Desk.told y.desk) × (y.way.child ≡ x.way.child) × (false ≡ false) × (y.way.child ≡ x.way.child))
    c.args.site.now.hall.now c.args.site.now.setup.now
    (IsAt c.args.site.now)
    c.cast-crew.result.1.main c.cast-crew.result.0.ear c.cast-crew.result.0.mouth c.cast-crew.result.0.workers.items c.args.kit.passes.items c.args.kit.desks.items
    (record {
      hears = λ x r. ear_so _ _ _ _ _ _ c.cast-crew.ensures.placed.0 r;
      speaks = λ x r. mouth_so _ _ _ _ _ _ c.cast-crew.ensures.placed.1 r;
      works = λ w v p r. worker_so _ _ _ _ _ _ _ _ _ _ p.hall p.setup (p.child ∙ c.requires.child ∙ sym (ap (λ (e : EarValue). e.child) c.cast-crew.ensures.link.0)) r.0;
      placed = c.cast-crew.ensures.placed.2;
      passes_are = c.cast-crew.ensures.passes;
      desks_are = c.cast-crew.ensures.desks;
      fresh = c.requires.may.fresh;
      can = subst (λ (e : EarValue). TaggedCan c.args.site.now.hall.now.fixed c.args.site.now.hall.now.start (link_of e c.cast-crew.result.0.mouth.mouth)) (sym c.cast-crew.ensures.link.0)
          (subst (λ (m : MouthValue). TaggedCan c.args.site.now.hall.now.fixed c.args.site.now.hall.now.start (link_of c.args.kit.link.ear m)) (sym c.cast-crew.ensures.link.1) c.requires.may.can);
      one_child = ap (λ (m : MouthValue). m.child) c.cast-crew.ensures.link.1 ∙ c.args.kit.link.one_child ∙ sym (ap (λ (e : EarValue). e.child) c.cast-crew.ensures.link.0);
    })
    c.run_crew-backs.result.0.ear c.run_crew-backs.result.0.mouth c.run_crew-backs.result.0.workers.items c.run_crew-backs.ensures.ear c.run_crew-backs.ensures.mouth c.run_crew-backs.ensures.workers
    c.args.kit.link.ear c.gather.result.link.ear c.args.kit.link.mouth c.gather.result.link.mouth c.gather.result.passes.items c.gather.result.desks.items c.settle-outcome.new.main c.settle-outcome.result
    c.cast-crew.ensures.link.0 c.cast-crew.ensures.link.1 c.gather.ensures.passes c.gather.ensures.desks c.gather.ensures.link.0 c.gather.ensures.link.1
    (subst (λ (n : ℕ). Settles c.args.site.now.hall.now n (list_any has_run c.run_crew-backs.result.0.workers.items) (has_run c.run_crew-backs.result.0.ear || has_run c.run_crew-backs.result.0.mouth) c.cast-crew.result.1.main c.settle-outcome.new.main c.settle-outcome.result)
    (c.requires.child ∙ sym (ap (λ (e : EarValue). e.child) c.cast-crew.ensures.link.0)) c.settle-outcome.ensures)

pub returns-clause-same : goal.returns-clause-same
returns-clause-same g c = played_same (λ x. x.pass) (λ x. x.ear) (λ x. x.pass) (λ x. x.mouth) (λ x. x.pass) (λ x. x.desk) g.K.Desk.told
    (λ x y. EarRan x.hall.now x.pass y.pass x.ear y.ear) (λ x y. MouthRan x.hall.now x.pass y.pass x.mouth y.mouth)
    (λ x y. WorkerRan x.hall.now x.setup.now x.pass y.pass false x.way.child (Unit {0}) (Unit {0}) (g.K.Desk.told x.desk) (g.K.Desk.told y.desk) × (y.way.child ≡ x.way.child) × (false ≡ false) × (y.way.child ≡ x.way.child))
    c.args.site.now.hall.now c.args.site.now.setup.now
    (IsAt c.args.site.now)
    c.cast-crew.result.1.main c.cast-crew.result.0.ear c.cast-crew.result.0.mouth c.cast-crew.result.0.workers.items c.args.kit.passes.items c.args.kit.desks.items
    (record {
      hears = λ x r. ear_so _ _ _ _ _ _ c.cast-crew.ensures.placed.0 r;
      speaks = λ x r. mouth_so _ _ _ _ _ _ c.cast-crew.ensures.placed.1 r;
      works = λ w v p r. worker_so _ _ _ _ _ _ _ _ _ _ p.hall p.setup (p.child ∙ c.requires.child ∙ sym (ap (λ (e : EarValue). e.child) c.cast-crew.ensures.link.0)) r.0;
      placed = c.cast-crew.ensures.placed.2;
      passes_are = c.cast-crew.ensures.passes;
      desks_are = c.cast-crew.ensures.desks;
      fresh = c.requires.may.fresh;
      can = subst (λ (e : EarValue). TaggedCan c.args.site.now.hall.now.fixed c.args.site.now.hall.now.start (link_of e c.cast-crew.result.0.mouth.mouth)) (sym c.cast-crew.ensures.link.0)
          (subst (λ (m : MouthValue). TaggedCan c.args.site.now.hall.now.fixed c.args.site.now.hall.now.start (link_of c.args.kit.link.ear m)) (sym c.cast-crew.ensures.link.1) c.requires.may.can);
      one_child = ap (λ (m : MouthValue). m.child) c.cast-crew.ensures.link.1 ∙ c.args.kit.link.one_child ∙ sym (ap (λ (e : EarValue). e.child) c.cast-crew.ensures.link.0);
    })
    c.run_crew-backs.result.0.ear c.run_crew-backs.result.0.mouth c.run_crew-backs.result.0.workers.items c.run_crew-backs.ensures.ear c.run_crew-backs.ensures.mouth c.run_crew-backs.ensures.workers
    c.args.kit.link.ear c.gather.result.link.ear c.args.kit.link.mouth c.gather.result.link.mouth c.gather.result.passes.items c.gather.result.desks.items c.settle-outcome.new.main c.settle-outcome.result
    c.cast-crew.ensures.link.0 c.cast-crew.ensures.link.1 c.gather.ensures.passes c.gather.ensures.desks c.gather.ensures.link.0 c.gather.ensures.link.1
    (subst (λ (n : ℕ). Settles c.args.site.now.hall.now n (list_any has_run c.run_crew-backs.result.0.workers.items) (has_run c.run_crew-backs.result.0.ear || has_run c.run_crew-backs.result.0.mouth) c.cast-crew.result.1.main c.settle-outcome.new.main c.settle-outcome.result)
    (c.requires.child ∙ sym (ap (λ (e : EarValue). e.child) c.cast-crew.ensures.link.0)) c.settle-outcome.ensures)
