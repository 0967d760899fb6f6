use Rattle.crew_rounds.proofs.TaggedLemmas.Coming.{ears_come, mouths_come, workers_come, workers_stay}
use Rattle.crew_rounds.proofs.tagged.laws.roles_come.Goals as goal

pub returns : goal.returns
returns c = record { ears = ears_come; mouths = mouths_come; workers = workers_come; stayed = workers_stay }
