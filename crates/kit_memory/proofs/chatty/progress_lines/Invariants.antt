use Rattle.kit_memory.specs.Children.{AreProgress}
use Rattle.kit_memory.proofs.chatty.progress_lines.Given as goal

-- the lines so far
abbrev pub invariant-loop-number : goal.invariant-loop-number
invariant-loop-number l = AreProgress l.lines l.told.items
