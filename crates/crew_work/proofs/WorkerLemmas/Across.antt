-- What several crates above this one use.
use Rattle.std.proofs.Common.{List, [], ◌∷◌}
use Rattle.std.specs.Prelude.{All}
use Rattle.std.proofs.lemmas.List.Elements.{All-head, All-tail}
use Rattle.task_text.specs.TaskLines.{IsTask}
use Rattle.task_text.specs.declared.task.Task.{Task}
use Rattle.crew_work.specs.Worker.Works.{AreTasks}

pub all_tasks : (tasks : List Task) → All IsTask tasks → AreTasks tasks
all_tasks [] h = tt
all_tasks (task ∷ more) h = (All-head IsTask task more h, all_tasks more (All-tail IsTask task more h))
