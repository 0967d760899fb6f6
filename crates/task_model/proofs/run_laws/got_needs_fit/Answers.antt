use Rattle.task_model.proofs.GotLaws.{got_needs_fit}
use Rattle.task_model.proofs.run_laws.got_needs_fit.Goals as goal

pub returns : goal.returns
returns c = got_needs_fit
