use Rattle.std.proofs.Common.{ap, ◌∙◌}
use Rattle.registers.specs.Links.{without_link, links_of}
use Rattle.registers.proofs.LinkLists.{remove_key-links_of, LinksRise-links_of}
use Rattle.registers.proofs.links.Links.remove.Goals as goal

pub returns-clause-ok : goal.returns-clause-ok
returns-clause-ok c =
    ap links_of c.remove.ensures.keys
    ∙ remove_key-links_of (c.in_ok-from_slice.field-0, c.in_ok-from_slice-2.field-0) c.self.inside.links.keys c.self.invariant
    ∙ (λ i. without_link (c.self.view_is i) (c.in_ok-from_slice.ensures.items i) (c.in_ok-from_slice-2.ensures.items i))

pub invariant_of-self : goal.invariant_of-self
invariant_of-self c = LinksRise-links_of _ c.remove.ensures.ordered
