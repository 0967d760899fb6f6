use Rattle.task_text.proofs.KeyLawsLemmas.OneFault.{one_task_error}
use Rattle.task_text.proofs.key_laws.laws.one_task_error.Goals as goal

pub returns : goal.returns
returns c = one_task_error
