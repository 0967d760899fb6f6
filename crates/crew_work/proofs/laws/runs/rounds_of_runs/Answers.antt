use Rattle.crew_work.proofs.LawsLemmas.WholeRounds.{tagged_gathers, pool_gathers, alone_gathers}
use Rattle.crew_work.specs.Laws.JournalRuns.{HasJournalRun}
use Rattle.crew_work.proofs.LawsLemmas.Lasting.{run_lasts}
use Rattle.crew_work.proofs.laws.runs.rounds_of_runs.Goals as goal

pub returns : goal.returns
returns c = record {
  tagged = λ o setup calls. tagged_gathers (HasJournalRun o setup calls) (run_lasts o setup calls);
  pool = λ o setup calls. pool_gathers (HasJournalRun o setup calls) (run_lasts o setup calls);
  alone = λ o setup calls. alone_gathers (HasJournalRun o setup calls) (run_lasts o setup calls);
}
