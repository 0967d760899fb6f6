use Rattle.std.proofs.Common.{◌≡◌, ◌++◌, map}
use Rattle.std.specs.Vec.Iter.{into_iter_items}
use Rattle.registers.specs.RegLines.{StateLine, line_of}
use Rattle.registers.proofs.registers.Registers.push_states.Given as goal

-- the lines so far, and those of the entries that are left
abbrev pub invariant-loop-key : goal.invariant-loop-key
invariant-loop-key l =
    map line_of l.lines.items ++ map (λ e. StateLine e.0.now e.1.now) (into_iter_items l.key-iterator) ≡ map line_of l.initial.lines.items ++ map (λ e. StateLine e.0 e.1) l.self.state
