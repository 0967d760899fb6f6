use Rattle.kit_async_model.proofs.Overs.{over_is_last}
use Rattle.kit_async_model.proofs.laws.over_is_last.Goals as goal

pub returns : goal.returns
returns c = λ setup past rest h o d. over_is_last setup past rest h o d
