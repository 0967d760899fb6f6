use Rattle.run_starts.proofs.TaskLawsLemmas.LeftFiles.{left_shows}
use Rattle.run_starts.proofs.task_laws.files_kept.left_shows.Goals as goal

pub returns : goal.returns
returns c = left_shows
