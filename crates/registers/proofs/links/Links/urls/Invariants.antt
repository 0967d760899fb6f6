use Rattle.std.proofs.Common.{◌≡◌, ◌++◌, map}
use Rattle.registers.specs.Links.{links_of, urls_at}
use Rattle.registers.proofs.links.Links.urls.Given as goal

-- those that were taken, and those that are left
abbrev pub invariant-loop-link : goal.invariant-loop-link
invariant-loop-link l = map (λ url. url.now) l.urls.items ++ urls_at (links_of l.link-iterator) l.key l.prefix ≡ urls_at l.self l.key l.prefix
