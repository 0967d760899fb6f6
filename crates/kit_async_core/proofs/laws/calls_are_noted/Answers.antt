use Rattle.kit_async_core.proofs.Callers.{takes_asked, calls_noted}
use Rattle.kit_async_core.proofs.laws.calls_are_noted.Goals as goal

pub returns-clause-asked : goal.returns-clause-asked
returns-clause-asked c = λ h before after remote asked is legal entered. takes_asked h before after remote asked is legal entered

pub returns-clause-noted : goal.returns-clause-noted
returns-clause-noted c = λ h before after remote said asked reply is legal to_do text entered. calls_noted h before after remote said asked reply is legal to_do text entered
