use Rattle.registers.proofs.Tables.{Rises-texts_of}
use Rattle.pair_kit.proofs.shelf.Shelf.new.Goals as goal

pub invariant_of-result : goal.invariant_of-result
invariant_of-result c = Rises-texts_of _ c.new.ensures.ordered
