use Rattle.kit_async.proofs.WorkLemmas.Ends.{workers_end}
use Rattle.kit_async.proofs.work.laws.workers_end.Goals as goal

pub returns : goal.returns
returns c = workers_end
