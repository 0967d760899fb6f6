use Rattle.crew_work.proofs.WorkerLemmas.KeyNotes.{busy_keys_differ}
use Rattle.crew_work.proofs.worker.laws.busy_keys_differ.Goals as goal

pub returns : goal.returns
returns c = busy_keys_differ
