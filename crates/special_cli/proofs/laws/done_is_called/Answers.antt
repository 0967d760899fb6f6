use Rattle.special_cli.proofs.Calling.{called}
use Rattle.special_cli.proofs.laws.done_is_called.Goals as goal

pub returns : goal.returns
returns c = λ w wish status left d. called w wish status left d
