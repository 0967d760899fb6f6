-- The answers of a run's tasks.
use Rattle.std.specs.Prelude.{ℕ, ◌≡◌, ◌==◌, if◌then◌else◌, List, map, filter_map, Option, Some, None}
use Rattle.journal_model.specs.declared.answer.Answer.{Answer}
use Rattle.journal_model.specs.declared.entry.What.{What}
use Rattle.journal_model.specs.declared.entry.What.TheVariants.{Answer as Answered}
use Rattle.journal_model.specs.declared.entry.Entry.{Entry}
use Rattle.journal_model.specs.declared.opening.Opening.{Opening}
use Rattle.journal_model.specs.Journal.{each_of, first_of}
use Rattle.journal_model.specs.Legality.{numbers_of}

-- what the entry answers the task
abbrev pub answer_for : ℕ → What → Option Answer
answer_for t (Answered task answer) = if task == t then Some answer else None
answer_for t w = None

-- the journal's answer of a task
abbrev pub answer_of : List Entry → ℕ → Option Answer
answer_of journal t = first_of (each_of (answer_for t) journal)

-- there is one answer for each task, in their order: the journal's
abbrev pub AreAnswers : Opening → List Entry → List Answer → Type 0
AreAnswers o journal answers = map (λ answer. Some answer) answers ≡ map (answer_of journal) (numbers_of o)

-- the answers of the tasks that have one, in the order of the tasks
abbrev pub given : Opening → List Entry → List Answer
given o journal = filter_map (answer_of journal) (numbers_of o)
