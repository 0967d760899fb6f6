use Rattle.run_starts.proofs.TaskLawsLemmas.GotFiles.{got_holds}
use Rattle.run_starts.proofs.task_laws.files_kept.got_holds.Goals as goal

pub returns : goal.returns
returns c = got_holds
