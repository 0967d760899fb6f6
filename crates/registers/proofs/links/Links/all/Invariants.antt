use Rattle.std.proofs.Common.{◌≡◌, ◌++◌, map}
use Rattle.registers.specs.Links.{links_of}
use Rattle.registers.proofs.links.Links.all.Given as goal

-- those that were taken, and those that are left
abbrev pub invariant-loop-key : goal.invariant-loop-key
invariant-loop-key l = map (λ e. (e.0.now, e.1.now)) l.all.items ++ links_of l.key-iterator ≡ l.self
