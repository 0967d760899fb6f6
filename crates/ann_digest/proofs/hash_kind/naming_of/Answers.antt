use Rattle.std.proofs.Common.{codes, Some, sym, ◌∙◌}
use Rattle.std.proofs.lemmas.Bool.Decides.{Decides-eqb}
use Rattle.std.proofs.lemmas.Slice.Eq.{strip_suffix_is}
use Rattle.ann_digest.proofs.Namings.{found}
use Rattle.ann_digest.proofs.hash_kind.naming_of.Goals as goal

pub returns-in-Some-strip_suffix : goal.returns-in-Some-strip_suffix
returns-in-Some-strip_suffix c =
    let e = strip_suffix_is Decides-eqb c.args.backend.now (codes "E") (Some c.in-Some-strip_suffix.front) c.in-Some-strip_suffix.ensures.cases in
    rw c.extended_naming.ensures (found c.args.backend.now c.in-Some-strip_suffix.front.now (sym c.kind_of.ensures ∙ c.in-None.is) e)
