use Rattle.journal_model.proofs.Holding.{held_unanswered}
use Rattle.journal_model.proofs.laws.held_until_answered.Goals as goal

pub returns : goal.returns
returns c = λ o journal legal t. held_unanswered o journal legal t
