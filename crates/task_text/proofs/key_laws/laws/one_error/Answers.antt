use Rattle.task_text.proofs.KeyLawsLemmas.KeyStops.{one_error}
use Rattle.task_text.proofs.key_laws.laws.one_error.Goals as goal

pub returns : goal.returns
returns c = one_error
