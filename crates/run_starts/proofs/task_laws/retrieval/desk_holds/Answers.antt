use Rattle.run_starts.proofs.TaskLawsLemmas.FilesStored.{desk_holds}
use Rattle.run_starts.proofs.task_laws.retrieval.desk_holds.Goals as goal

pub returns : goal.returns
returns c = desk_holds
