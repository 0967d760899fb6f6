use Rattle.kit_async.proofs.Ended.{jobs_are_settled}
use Rattle.kit_async.proofs.laws.jobs_are_settled.Goals as goal

pub returns : goal.returns
returns c = jobs_are_settled
