use Rattle.crew_work.proofs.WorkerLemmas.KeyNotes.{layouts_since_claim}
use Rattle.crew_work.proofs.worker.laws.layouts_since_claim.Goals as goal

pub returns : goal.returns
returns c = layouts_since_claim
