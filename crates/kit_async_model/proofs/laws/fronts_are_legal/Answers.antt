use Rattle.kit_async_model.proofs.Fronts.{fronts_are_legal}
use Rattle.kit_async_model.proofs.laws.fronts_are_legal.Goals as goal

pub returns : goal.returns
returns c = λ setup past rest h. fronts_are_legal setup past rest h
