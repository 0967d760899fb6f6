use Rattle.run_children.proofs.TaskFiles.{tasks_are_told}
use Rattle.run_children.proofs.laws.tasks_are_told.Goals as goal

pub returns : goal.returns
returns c = tasks_are_told
