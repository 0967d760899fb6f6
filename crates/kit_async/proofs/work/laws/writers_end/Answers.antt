use Rattle.kit_async.proofs.WorkLemmas.Ends.{writers_end}
use Rattle.kit_async.proofs.work.laws.writers_end.Goals as goal

pub returns : goal.returns
returns c = writers_end
