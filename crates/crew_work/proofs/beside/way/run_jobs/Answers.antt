use Rattle.crew_work.proofs.WorkerLemmas.TaskNotes.{notes_as_its_work}
use Rattle.crew_work.proofs.beside.way.run_jobs.Goals as goal

pub run_task-requires-clause-notes : goal.run_task-requires-clause-notes
run_task-requires-clause-notes g c = λ h. rw c.requires.named (notes_as_its_work c.args.task.now h)
