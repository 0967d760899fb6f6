use Rattle.kit_async.proofs.Ended.{status_is_heard}
use Rattle.kit_async.proofs.laws.status_is_heard.Goals as goal

pub returns : goal.returns
returns c = status_is_heard
