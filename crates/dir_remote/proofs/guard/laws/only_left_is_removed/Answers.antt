use Rattle.dir_remote.proofs.GuardLemmas.Removing.{only_left}
use Rattle.dir_remote.proofs.guard.laws.only_left_is_removed.Goals as goal

pub returns : goal.returns
returns c = only_left
