use Rattle.run_starts.proofs.TaskLawsLemmas.LastRuns.{answered_is_last}
use Rattle.run_starts.proofs.task_laws.retrieval.answered_is_last.Goals as goal

pub returns : goal.returns
returns c = answered_is_last
