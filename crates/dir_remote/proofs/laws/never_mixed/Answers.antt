use Rattle.dir_remote.proofs.Mixing.{never_mixed}
use Rattle.dir_remote.proofs.laws.never_mixed.Goals as goal

pub returns : goal.returns
returns c = never_mixed
