use Rattle.task_text.proofs.ChunkLogLemmas.ReadBack.{reads_back}
use Rattle.task_text.proofs.chunk_log.laws.reads_back.Goals as goal

pub returns : goal.returns
returns c = reads_back
