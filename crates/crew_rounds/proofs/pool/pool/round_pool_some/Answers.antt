use Rattle.std.proofs.Common.{List, refl, subst, sym, ◌∙◌, arith}
use Rattle.std.specs.Prelude.{map}
use Rattle.std.proofs.lemmas.List.{length-map}
use Rattle.journal_model.specs.declared.entry.Entry.{Entry}
use Rattle.journal_model.specs.declared.opening.Opening.{Opening}
use Rattle.crew_rounds.specs.Tagged.PoolChildren.{PoolCan}
use Rattle.crew_rounds.specs.Tagged.Roles.{CanRunTasks}
use Rattle.crew_rounds.specs.Tagged.Tagged.{link_of}
use Rattle.crew_rounds.proofs.TaggedLemmas.Closing.{closes_kept, fresh_from}
use Rattle.crew_rounds.specs.Pool.Pool.{AreAsBefore}
use Rattle.crew_rounds.proofs.PoolLemmas.Backs.{links_still}
use Rattle.crew_rounds.proofs.PoolLemmas.Closing.{closes_done}
use Rattle.crew_rounds.proofs.pool.pool.round_pool_some.Goals as goal

pub play-kit-requires-clause-may : goal.play-kit-requires-clause-may
play-kit-requires-clause-may g c κs within =
    let b = c.in-Ok.ensures in
    let links = map (λ l. link_of l.ear l.mouth) c.args.links.items in
    record {
      fresh = fresh_from c.in-Ok.hall 1 c.in-Ok.passes.items b.passes.1 (λ k p there. (let it = b.fresh k p there in ((let is = it.0 in omega (arith, is)), it.1)));
      can = subst (λ (o : Opening). PoolCan o c.in-Ok.hall.start links) (sym b.hall.2) (subst (λ (j : List Entry). PoolCan c.args.core.opening j links) (sym b.hall.1) c.requires.can);
      run = subst (λ (o : Opening). CanRunTasks o c.args.tasks.now c.args.setup.now) (sym b.hall.2) c.requires.run;
    }

pub returns-in-Ok-clause-round : goal.returns-in-Ok-clause-round
returns-in-Ok-clause-round g c =
    let b = c.in-Ok.ensures in
    let p = c.play-kit.ensures in
    closes_done c.in-Ok.hall c.args.core.opening c.args.core.journal b.hall.1 b.hall.2 c.play-kit.result.0.passes.items c.close.result.journal c.close.result.opening (c.close.ensures, p.own.0) c.play-kit.result.1
    c.args.setup.now (map (λ l. link_of l.ear l.mouth) c.args.links.items) (map (λ l. link_of l.ear l.mouth) c.play-kit.result.0.links.items) _ _ _
    (length-map c.args.desks.items _ ∙ sym c.args.desks.ok.0) c.requires.can p.left

pub returns-in-Ok-clause-kept : goal.returns-in-Ok-clause-kept
returns-in-Ok-clause-kept g c =
    let b = c.in-Ok.ensures in
    let p = c.play-kit.ensures in
    closes_kept c.in-Ok.hall c.args.core.opening c.args.core.journal b.hall.1 b.hall.2 c.play-kit.result.0.passes.items c.close.result.journal c.close.result.opening (c.close.ensures, p.own.0) c.play-kit.result.1
    (AreAsBefore c.args.links.items c.play-kit.result.0.links.items c.args.desks.items c.play-kit.result.0.desks.items) c.in-Ok.passes.items
    (fresh_from c.in-Ok.hall 1 c.in-Ok.passes.items b.passes.1 (λ k p there. (let it = b.fresh k p there in ((let is = it.0 in omega (arith, is)), it.1)))) p.kept

pub returns-in-Err-clause-same : goal.returns-in-Err-clause-same
returns-in-Err-clause-same g c = (links_still (map (λ l. link_of l.ear l.mouth) c.args.links.items), refl)
