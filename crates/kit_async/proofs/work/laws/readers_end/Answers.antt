use Rattle.kit_async.proofs.WorkLemmas.Ends.{readers_end}
use Rattle.kit_async.proofs.work.laws.readers_end.Goals as goal

pub returns : goal.returns
returns c = readers_end
