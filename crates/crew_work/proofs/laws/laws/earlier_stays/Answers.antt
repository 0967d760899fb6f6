use Rattle.crew_work.proofs.LawsLemmas.WholeRounds.{earlier_stays}
use Rattle.crew_work.proofs.laws.laws.earlier_stays.Goals as goal

pub returns : goal.returns
returns g c = λ m. earlier_stays (g.M.Meaning.ran m) (g.M.Meaning.lasts m)
