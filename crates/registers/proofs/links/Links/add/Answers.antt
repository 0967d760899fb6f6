use Rattle.std.proofs.Common.{ap, ◌∙◌}
use Rattle.registers.specs.Links.{with_link, links_of}
use Rattle.registers.proofs.LinkLists.{insert_key-links_of, LinksRise-links_of}
use Rattle.registers.proofs.links.Links.add.Goals as goal

pub returns-clause-ok : goal.returns-clause-ok
returns-clause-ok c =
    ap links_of c.in_ok-insert.ensures.keys
    ∙ insert_key-links_of c.self.inside.links.keys (c.in_ok-key.key, c.in_ok-url.url)
    ∙ (λ i. with_link (c.self.view_is i) (c.in_ok-key.ensures.items i) (c.in_ok-url.ensures.items i))

pub invariant_of-self-2 : goal.invariant_of-self-2
invariant_of-self-2 c = LinksRise-links_of _ c.in_ok-insert.ensures.ordered
