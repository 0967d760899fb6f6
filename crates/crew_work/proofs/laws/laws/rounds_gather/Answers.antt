use Rattle.crew_work.proofs.LawsLemmas.WholeRounds.{tagged_gathers, pool_gathers, alone_gathers}
use Rattle.crew_work.proofs.laws.laws.rounds_gather.Goals as goal

pub returns : goal.returns
returns g c = record {
  tagged = λ m. tagged_gathers (g.M.Meaning.ran m) (g.M.Meaning.lasts m);
  pool = λ m. pool_gathers (g.M.Meaning.ran m) (g.M.Meaning.lasts m);
  alone = λ m. alone_gathers (g.M.Meaning.ran m) (g.M.Meaning.lasts m);
}
