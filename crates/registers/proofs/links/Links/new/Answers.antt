use Rattle.registers.proofs.LinkLists.{LinksRise-links_of}
use Rattle.registers.proofs.links.Links.new.Goals as goal

pub invariant_of-result : goal.invariant_of-result
invariant_of-result c = LinksRise-links_of _ c.new.ensures.ordered
