use Rattle.std.proofs.Common.{refl}
use Rattle.std.specs.Fmt.{digits}
use Rattle.rehearse_plan.proofs.laws.worked_tasks.Goals as goal

pub returns-clause-tasks : goal.returns-clause-tasks
unfolding digits
returns-clause-tasks c = refl
