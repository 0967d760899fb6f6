use Rattle.kit_async_model.proofs.Making.{steps_are_made}
use Rattle.kit_async_model.proofs.Stepping.{steps_are_legal}
use Rattle.kit_async_model.proofs.laws.steps_are_legal.Goals as goal

pub returns-clause-legal : goal.returns-clause-legal
returns-clause-legal c = λ setup past by event l. steps_are_legal setup past by event l

pub returns-clause-made : goal.returns-clause-made
returns-clause-made c = λ setup past by event. steps_are_made setup past by event
