use Rattle.std.proofs.Common.{◌&&◌, bytes_eq, nat_eq, ◌∙◌, rules}
use Rattle.std.specs.List.{starts_with}
use Rattle.std.proofs.lemmas.Iterator.Consumers.{nth_from_yields_List, YieldsList-from_filter, YieldsList-from_rest}
use Rattle.registers.proofs.LinkLists.{Link}
use Rattle.registers.proofs.links.matching.Goals as goal

pub returns : goal.returns
returns c =
    nth_from_yields_List c.nth.result c.nth.new.self c.args.n c.nth.ensures.ran
    (YieldsList-from_filter _ (λ (l : Link). bytes_eq c.args.key.now l.0.items && starts_with nat_eq l.1.items c.args.prefix.now)
    (YieldsList-from_rest c.args.links.now.keys (c.filter.ensures.source ∙ c.iter.ensures.rest)) c.filter.ensures.closure (λ x b q called. search rules))
