use Rattle.dir_remote.proofs.Mixture.{mixes}
use Rattle.dir_remote.proofs.laws.one_mark_mixes.Goals as goal

pub returns : goal.returns
returns c = mixes
