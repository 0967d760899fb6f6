use Rattle.std.proofs.Common.{◌≡◌, ◌++◌, map}
use Rattle.std.specs.Vec.Iter.{into_iter_items}
use Rattle.registers.specs.Registers.{urls_of}
use Rattle.journal_model.specs.Replies.{value_line}
use Rattle.host_talk.proofs.asks.lines.urls.Given as goal

-- the lines so far, and those of the URLs that are left
abbrev pub invariant-loop-url : goal.invariant-loop-url
invariant-loop-url l = l.lines.items ++ map (λ url. value_line url.now) (into_iter_items l.url-iterator) ≡ map value_line (urls_of l.registers l.key l.prefix)
