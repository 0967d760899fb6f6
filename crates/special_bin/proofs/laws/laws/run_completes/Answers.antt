use Rattle.special_bin.proofs.LawsLemmas.Completing.{idle_lacks_memory, run_completes}
use Rattle.special_bin.proofs.laws.laws.run_completes.Goals as goal

pub returns-clause-begun : goal.returns-clause-begun
returns-clause-begun c = run_completes

pub returns-clause-idle : goal.returns-clause-idle
returns-clause-idle c = idle_lacks_memory
