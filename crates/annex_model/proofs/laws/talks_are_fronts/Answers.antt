use Rattle.annex_model.proofs.Fronts.{front_of}
use Rattle.annex_model.proofs.laws.talks_are_fronts.Goals as goal

pub returns : goal.returns
returns c = λ replies q part talking. front_of replies q part talking
