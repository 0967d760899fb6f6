use Rattle.run_children.proofs.Completing.{jobs_complete}
use Rattle.run_children.proofs.laws.jobs_complete.Goals as goal

pub returns : goal.returns
returns c = jobs_complete
