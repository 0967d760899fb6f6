use Rattle.run_starts.proofs.TaskLawsLemmas.WellTasks.{well_unless_refused}
use Rattle.run_starts.proofs.task_laws.went_well.well_unless_refused.Goals as goal

pub returns : goal.returns
returns c = well_unless_refused
