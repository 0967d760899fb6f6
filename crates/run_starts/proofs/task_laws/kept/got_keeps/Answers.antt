use Rattle.run_starts.proofs.TaskLawsLemmas.Keeping.{got_keeps}
use Rattle.run_starts.proofs.task_laws.kept.got_keeps.Goals as goal

pub returns : goal.returns
returns c = got_keeps
