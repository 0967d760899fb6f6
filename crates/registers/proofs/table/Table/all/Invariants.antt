use Rattle.std.proofs.Common.{◌≡◌, ◌++◌, map}
use Rattle.registers.specs.Tables.{texts_of}
use Rattle.registers.proofs.table.Table.all.Given as goal

-- those that were taken, and those that are left
abbrev pub invariant-loop-name : goal.invariant-loop-name
invariant-loop-name l = map (λ e. (e.0.now, e.1.now)) l.all.items ++ texts_of l.name-iterator ≡ l.self
