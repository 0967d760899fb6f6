use Rattle.run_starts.proofs.TaskLawsLemmas.NoPart.{no_part_is_afresh}
use Rattle.run_starts.proofs.task_laws.files_kept.no_part_is_afresh.Goals as goal

pub returns : goal.returns
returns c = no_part_is_afresh
