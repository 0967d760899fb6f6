use Rattle.run_children.proofs.Succeeding.{jobs_keep}
use Rattle.run_children.proofs.laws.jobs_keep.Goals as goal

pub returns : goal.returns
returns c = jobs_keep
