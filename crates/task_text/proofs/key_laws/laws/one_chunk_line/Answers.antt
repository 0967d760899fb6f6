use Rattle.task_text.proofs.KeyLawsLemmas.OneFault.{one_chunk_line}
use Rattle.task_text.proofs.key_laws.laws.one_chunk_line.Goals as goal

pub returns : goal.returns
returns c = one_chunk_line
