use Rattle.run_starts.proofs.TaskLawsLemmas.WellTasks.{well_is_success}
use Rattle.run_starts.proofs.task_laws.went_well.well_is_success.Goals as goal

pub returns : goal.returns
returns c = well_is_success
