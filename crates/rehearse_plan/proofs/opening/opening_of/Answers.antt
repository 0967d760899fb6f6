use Rattle.rehearse_plan.proofs.Planned.{begins_of}
use Rattle.rehearse_plan.proofs.opening.opening_of.Goals as goal

pub returns-clause-may : goal.returns-clause-may
returns-clause-may c = begins_of c.args.seed c.args.tasks _ _ _ _ c.requires c.in_ok-tasks_of.ensures c.in_ok-nobody.ensures
