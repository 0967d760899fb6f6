use Rattle.std.proofs.Common.{◌≡◌, ◌++◌, map}
use Rattle.std.specs.Vec.Iter.{into_iter_items}
use Rattle.registers.specs.RegLines.{ConfigLine, line_of}
use Rattle.registers.proofs.registers.Registers.push_config.Given as goal

-- the lines so far, and those of the entries that are left
abbrev pub invariant-loop-name : goal.invariant-loop-name
invariant-loop-name l =
    map line_of l.lines.items ++ map (λ e. ConfigLine e.0.now e.1.now) (into_iter_items l.name-iterator) ≡ map line_of l.initial.lines.items ++ map (λ e. ConfigLine e.0 e.1) l.self.config
