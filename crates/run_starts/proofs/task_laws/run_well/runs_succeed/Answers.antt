use Rattle.run_starts.proofs.TaskLawsLemmas.RunsWell.{runs_succeed}
use Rattle.run_starts.proofs.task_laws.run_well.runs_succeed.Goals as goal

pub returns : goal.returns
returns c = runs_succeed
