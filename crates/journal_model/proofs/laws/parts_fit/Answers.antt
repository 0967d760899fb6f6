use Rattle.journal_model.proofs.Projecting.{parts_fit, asked_parts}
use Rattle.journal_model.proofs.laws.parts_fit.Goals as goal

pub returns-clause-fits : goal.returns-clause-fits
returns-clause-fits c = λ o journal legal. parts_fit o journal legal

pub returns-clause-asked : goal.returns-clause-asked
returns-clause-asked c = λ o journal legal. asked_parts o journal legal
