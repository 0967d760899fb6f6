use Rattle.std.proofs.Common.{◌≡◌, take}
use Rattle.kit_serve.proofs.kit.lists.Values.copy.Given as goal

-- the values so far
abbrev pub invariant-loop-value : goal.invariant-loop-value
invariant-loop-value l = l.items.items ≡ take l.value-index l.value-items
