use Rattle.special_bin.proofs.LawsLemmas.Lost.{lost_told, lost_unbegun}
use Rattle.special_bin.proofs.laws.recovery_laws.a_lost_text_is_told.Goals as goal

pub returns-clause-told : goal.returns-clause-told
returns-clause-told c = lost_told

pub returns-clause-unbegun : goal.returns-clause-unbegun
returns-clause-unbegun c = lost_unbegun
