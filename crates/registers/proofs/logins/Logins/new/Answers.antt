use Rattle.registers.proofs.PairLists.{Rises-pairs_of}
use Rattle.registers.proofs.logins.Logins.new.Goals as goal

pub invariant_of-result : goal.invariant_of-result
invariant_of-result c = Rises-pairs_of _ c.new.ensures.ordered
