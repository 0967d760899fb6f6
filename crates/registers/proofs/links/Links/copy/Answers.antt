use Rattle.std.proofs.Common.{◌≡◌, ◌∙◌, subst, sym, vec_len}
use Rattle.registers.specs.Links.{LinksRise}
use Rattle.registers.proofs.LinkLists.{links_of_copies}
use Rattle.registers.proofs.links.Links.copy.Goals as goal

pub returns : goal.returns
returns c = links_of_copies (λ v w. vec_len w ≡ vec_len v) (λ a b h. h) c.self.inside.links.keys c.in_ok-links.links.keys c.in_ok-links.ensures.cases ∙ c.self.view_is

pub invariant_of-result : goal.invariant_of-result
invariant_of-result c =
    subst LinksRise (sym (links_of_copies (λ v w. vec_len w ≡ vec_len v) (λ a b h. h) c.self.inside.links.keys c.in_ok-links.links.keys c.in_ok-links.ensures.cases)) c.self.invariant
