use Rattle.run_starts.proofs.TaskLawsLemmas.OneStore.{keeps_stored_content}
use Rattle.run_starts.proofs.task_laws.retrieval.keeps_stored_content.Goals as goal

pub returns : goal.returns
returns c = keeps_stored_content
