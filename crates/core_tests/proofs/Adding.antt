-- One more task.
use Rattle.std.proofs.Common.{ℕ, List, [], ◌∷◌, ◌++◌, All}
use Rattle.std.proofs.lemmas.List.Elements.{All-append, All-cons, All-nil}
use Rattle.task_text.specs.declared.task.Task.{Task}
use Rattle.task_text.specs.TaskLines.{IsTask, SpellsTask}

pub one_more : (tasks : List Task) (task : Task) (line : List ℕ) → All IsTask tasks → SpellsTask task line → All IsTask (tasks ++ task ∷ [])
one_more tasks task line fit spells = All-append IsTask tasks (task ∷ []) fit (All-cons IsTask task [] spells.task_class (All-nil IsTask))
