use Rattle.kit_async_model.proofs.MeaningLemmas.Belonging.{each_belongs}
use Rattle.kit_async_model.proofs.meaning.laws.each_belongs.Goals as goal

pub returns : goal.returns
returns c = λ setup past rest entry h. each_belongs setup past rest entry h
