use Rattle.run_children.proofs.Succeeding.{jobs_succeed}
use Rattle.run_children.proofs.laws.jobs_succeed.Goals as goal

pub returns : goal.returns
returns c = jobs_succeed
