use Rattle.run_starts.proofs.TaskLawsLemmas.Sending.{chunks_are_ranges}
use Rattle.run_starts.proofs.task_laws.sent.chunks_are_ranges.Goals as goal

pub returns : goal.returns
returns c = chunks_are_ranges
