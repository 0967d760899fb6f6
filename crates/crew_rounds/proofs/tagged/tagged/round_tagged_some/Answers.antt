use Rattle.std.proofs.Common.{List, subst, sym, ◌∙◌, arith}
use Rattle.std.proofs.lemmas.List.{length-map}
use Rattle.journal_model.specs.declared.entry.Entry.{Entry}
use Rattle.journal_model.specs.declared.opening.Opening.{Opening}
use Rattle.crew_rounds.specs.Tagged.Outcomes.{LinkStays}
use Rattle.crew_rounds.specs.Tagged.Roles.{CanRunTasks}
use Rattle.crew_rounds.specs.Tagged.Tagged.{TaggedCan, link_of}
use Rattle.crew_rounds.proofs.TaggedLemmas.Closing.{closes_done, closes_kept, fresh_from}
use Rattle.crew_rounds.proofs.tagged.tagged.round_tagged_some.Goals as goal

pub play-kit-requires-clause-may : goal.play-kit-requires-clause-may
play-kit-requires-clause-may g c κs within =
    let b = c.in-Ok.ensures in
    record {
      fresh = fresh_from c.in-Ok.hall 1 c.in-Ok.passes.items b.passes.1 (λ k p there. (let it = b.fresh k p there in ((let is = it.0 in omega (arith, is)), it.1)));
      can = subst (λ (o : Opening). TaggedCan o c.in-Ok.hall.start (link_of c.args.link.ear c.args.link.mouth)) (sym b.hall.2)
          (subst (λ (j : List Entry). TaggedCan c.args.core.opening j (link_of c.args.link.ear c.args.link.mouth)) (sym b.hall.1) c.requires.can);
      run = subst (λ (o : Opening). CanRunTasks o c.args.tasks.now c.args.setup.now) (sym b.hall.2) c.requires.run;
    }

pub returns-in-Ok-clause-round : goal.returns-in-Ok-clause-round
returns-in-Ok-clause-round g c =
    let b = c.in-Ok.ensures in
    let p = c.play-kit.ensures in
    closes_done c.in-Ok.hall c.args.core.opening c.args.core.journal b.hall.1 b.hall.2 c.play-kit.result.0.passes.items c.close.result.journal c.close.result.opening (c.close.ensures, p.own.0) c.play-kit.result.1
    c.args.setup.now (link_of c.args.link.ear c.args.link.mouth) (link_of c.play-kit.result.0.link.ear c.play-kit.result.0.link.mouth) _ _ _
    (length-map c.args.desks.items _ ∙ sym c.args.desks.ok.0) c.requires.can p.left

pub returns-in-Ok-clause-kept : goal.returns-in-Ok-clause-kept
returns-in-Ok-clause-kept g c =
    let b = c.in-Ok.ensures in
    let p = c.play-kit.ensures in
    closes_kept c.in-Ok.hall c.args.core.opening c.args.core.journal b.hall.1 b.hall.2 c.play-kit.result.0.passes.items c.close.result.journal c.close.result.opening (c.close.ensures, p.own.0) c.play-kit.result.1
    (LinkStays c.args.link.ear c.play-kit.result.0.link.ear c.args.link.mouth c.play-kit.result.0.link.mouth c.args.desks.items c.play-kit.result.0.desks.items) c.in-Ok.passes.items
    (fresh_from c.in-Ok.hall 1 c.in-Ok.passes.items b.passes.1 (λ k p there. (let it = b.fresh k p there in ((let is = it.0 in omega (arith, is)), it.1)))) p.kept
