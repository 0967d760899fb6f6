use Rattle.run_starts.proofs.TaskLawsLemmas.FilesStored.{lasts_to_the_end}
use Rattle.run_starts.proofs.task_laws.retrieval.lasts_to_the_end.Goals as goal

pub returns : goal.returns
returns c = lasts_to_the_end
