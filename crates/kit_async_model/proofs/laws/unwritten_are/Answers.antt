use Rattle.kit_async_model.proofs.Unwritten.{unwritten_are}
use Rattle.kit_async_model.proofs.laws.unwritten_are.Goals as goal

pub returns : goal.returns
returns c = λ setup journal h. unwritten_are setup journal h
