use Rattle.threads.specs.Log.{flat}
use Rattle.crew_work.proofs.LawsLemmas.Gathering.{closed, rounded}
use Rattle.crew_work.proofs.laws.laws.rounds_rest.Goals as goal

pub returns : goal.returns
returns c = λ crew h ps final fixed over keeps legal calm.
    (flat over.0.log, over.0.is, rounded h.fixed crew h.start (flat over.0.log) ps (closed crew h ps final fixed over.0 over.1 keeps legal) legal calm)
