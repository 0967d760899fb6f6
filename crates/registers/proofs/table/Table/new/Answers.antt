use Rattle.registers.proofs.Tables.{Rises-texts_of}
use Rattle.registers.proofs.table.Table.new.Goals as goal

pub invariant_of-result : goal.invariant_of-result
invariant_of-result c = Rises-texts_of _ c.new.ensures.ordered
