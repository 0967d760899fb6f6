use Rattle.threads.specs.Log.{flat}
use Rattle.crew_work.proofs.LawsLemmas.Gathering.{closed, own_in, turns_in}
use Rattle.crew_work.proofs.laws.laws.own_stays.Goals as goal

pub returns : goal.returns
returns c = λ crew h ps final fixed over keeps legal i p there.
    let k = closed crew h ps final fixed over.0 over.1 keeps legal in (
      flat over.0.log,
      over.0.is,
      (own_in h.fixed crew h.start (flat over.0.log) ps k i p there, turns_in h.fixed crew h.start (flat over.0.log) ps k i p there),
    )
