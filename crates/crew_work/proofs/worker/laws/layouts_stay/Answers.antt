use Rattle.crew_work.proofs.WorkerLemmas.KeyNotes.{layouts_stay}
use Rattle.crew_work.proofs.worker.laws.layouts_stay.Goals as goal

pub returns : goal.returns
returns c = layouts_stay
