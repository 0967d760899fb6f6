use Rattle.crew_work.proofs.LawsLemmas.Lasting.{run_lasts}
use Rattle.crew_work.proofs.laws.runs.runs_last.Goals as goal

pub returns : goal.returns
returns c = λ o setup calls n t k past more r. run_lasts o setup calls n t k past more r
