use Rattle.journal_reader.proofs.Sound.{over_is_whole, all_told}
use Rattle.journal_reader.proofs.laws.what_is_taken_is_a_text.Goals as goal

pub returns-clause-told : goal.returns-clause-told
returns-clause-told c = λ lines r reads at. (over_is_whole lines r reads at).0

pub returns-clause-lines : goal.returns-clause-lines
returns-clause-lines c = λ lines r reads at. (over_is_whole lines r reads at).1

pub returns-clause-counted : goal.returns-clause-counted
returns-clause-counted c = λ lines r reads. let t = all_told lines r reads in t.taken
