use Rattle.kit_async.proofs.Ended.{all_is_written}
use Rattle.kit_async.proofs.laws.all_is_written.Goals as goal

pub returns : goal.returns
returns c = all_is_written
