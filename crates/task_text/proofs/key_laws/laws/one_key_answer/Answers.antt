use Rattle.task_text.proofs.KeyLawsLemmas.KeyStops.{one_key_answer}
use Rattle.task_text.proofs.key_laws.laws.one_key_answer.Goals as goal

pub returns : goal.returns
returns c = one_key_answer
