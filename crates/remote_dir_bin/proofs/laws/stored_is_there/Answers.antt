use Rattle.remote_dir_bin.proofs.Telling.{stored_is_there}
use Rattle.remote_dir_bin.proofs.laws.stored_is_there.Goals as goal

pub returns : goal.returns
returns c = stored_is_there
