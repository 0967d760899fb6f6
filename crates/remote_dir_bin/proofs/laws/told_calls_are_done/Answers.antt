use Rattle.remote_dir_bin.proofs.Telling.{calls_are_of}
use Rattle.remote_dir_bin.proofs.laws.told_calls_are_done.Goals as goal

pub returns : goal.returns
returns c = calls_are_of
