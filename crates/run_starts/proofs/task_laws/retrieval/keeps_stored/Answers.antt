use Rattle.run_starts.proofs.TaskLawsLemmas.Retrieving.{keeps_stored}
use Rattle.run_starts.proofs.task_laws.retrieval.keeps_stored.Goals as goal

pub returns : goal.returns
returns c = keeps_stored
