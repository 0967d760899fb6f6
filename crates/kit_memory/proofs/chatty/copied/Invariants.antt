use Rattle.std.proofs.Common.{◌≡◌, take}
use Rattle.kit_memory.proofs.chatty.copied.Given as goal

-- the lines so far
abbrev pub invariant-loop-line : goal.invariant-loop-line
invariant-loop-line l = l.items.items ≡ take l.line-index l.line-items
