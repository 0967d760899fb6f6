use Rattle.std.proofs.Common.{Some, None}
use Rattle.std.proofs.lemmas.Bool.Decides.{Decides-eqb}
use Rattle.std.proofs.lemmas.Slice.Eq.{strip_prefix_is}
use Rattle.ann_digest.proofs.Namings.{named}
use Rattle.ann_digest.proofs.hash_kind.is_named.Goals as goal

pub returns-in-Some : goal.returns-in-Some
returns-in-Some c =
    let e = strip_prefix_is Decides-eqb c.args.name.now c.args.text.now (Some c.in-Some.rest) c.in-Some.ensures.cases in
    named c.args.extended _ c.args.text.now c.args.name.now c.in-Some.rest.now e c.is_rest.ensures

pub returns-in-None : goal.returns-in-None
returns-in-None c =
    let e = strip_prefix_is Decides-eqb c.args.name.now c.args.text.now None c.in-None.ensures.cases in
    (λ h. absurd cc, λ w. absurd (e w.0 w.1))
