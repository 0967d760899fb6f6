use Rattle.kit_async_model.proofs.MeaningLemmas.Refusals.{another_value, no_value}
use Rattle.kit_async_model.proofs.meaning.laws.worked_arguments.Goals as goal

pub returns-clause-another_value : goal.returns-clause-another_value
returns-clause-another_value c = λ w. another_value w.0 w.1

pub returns-clause-no_value : goal.returns-clause-no_value
returns-clause-no_value c = λ w. no_value w.0 w.1
