use Rattle.journal_model.proofs.Growing.{Legal-groups, groups-Legal, Legal-places, places-Legal}
use Rattle.journal_model.proofs.laws.forms_agree.Goals as goal

pub returns-clause-places : goal.returns-clause-places
returns-clause-places c = λ o journal. (Legal-places o journal, places-Legal o journal)

pub returns-clause-groups : goal.returns-clause-groups
returns-clause-groups c = λ o journal. (Legal-groups o journal, groups-Legal o journal)
