use Rattle.task_text.proofs.KeyLawsLemmas.OneFault.{one_chunk_error}
use Rattle.task_text.proofs.key_laws.laws.one_chunk_error.Goals as goal

pub returns : goal.returns
returns c = one_chunk_error
