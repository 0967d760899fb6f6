use Rattle.run_starts.proofs.TaskLawsLemmas.FilesStored.{file_keeps_stored}
use Rattle.run_starts.proofs.task_laws.retrieval.file_keeps_stored.Goals as goal

pub returns : goal.returns
returns c = file_keeps_stored
