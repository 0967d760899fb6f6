use Rattle.std.proofs.Common.{◌≡◌, take}
use Rattle.kit_serve.proofs.kit.lists.Pairs.copy.Given as goal

-- the pairs so far
abbrev pub invariant-loop-pair : goal.invariant-loop-pair
invariant-loop-pair l = l.items.items ≡ take l.pair-index l.pair-items
