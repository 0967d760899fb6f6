use Rattle.special_bin.proofs.LawsLemmas.Holding.{run_is_told, run_keeps}
use Rattle.special_bin.proofs.laws.laws.run_keeps.Goals as goal

pub returns-clause-told : goal.returns-clause-told
returns-clause-told c = run_is_told

pub returns-clause-kept : goal.returns-clause-kept
returns-clause-kept c = run_keeps
