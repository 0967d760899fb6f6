use Rattle.crew_work.proofs.BesideLemmas.Ending.{lones_end, workers_end}
use Rattle.crew_work.proofs.beside.laws.workers_end.Goals as goal

pub returns : goal.returns
returns c = record { shared = workers_end; lone = lones_end }
