use Rattle.annex_model.proofs.FrontsTalk.{front_talks}
use Rattle.annex_model.proofs.laws.fronts_talk.Goals as goal

pub returns : goal.returns
returns c = λ replies q part f. front_talks replies q part f
