use Rattle.task_text.proofs.ChunkLogLemmas.Uuids.{nil_written, upper_not_written, bare_not_written}
use Rattle.task_text.proofs.chunk_log.laws.worked_uuids.Goals as goal

pub returns-clause-nil : goal.returns-clause-nil
returns-clause-nil c = nil_written

pub returns-clause-upper : goal.returns-clause-upper
returns-clause-upper c = upper_not_written

pub returns-clause-bare : goal.returns-clause-bare
returns-clause-bare c = bare_not_written
