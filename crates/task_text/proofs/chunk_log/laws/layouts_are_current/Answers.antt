use Rattle.task_text.proofs.ChunkLogLemmas.Newest.{layouts_current}
use Rattle.task_text.proofs.chunk_log.laws.layouts_are_current.Goals as goal

pub returns : goal.returns
returns c = layouts_current
