use Rattle.dir_remote.proofs.GuardLemmas.Meaning.{words_hold}
use Rattle.dir_remote.proofs.guard.laws.words_hold.Goals as goal

pub returns : goal.returns
returns c = words_hold
