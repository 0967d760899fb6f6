-- How the answers are taken from the journal: one place for each task, which takes the first answer that comes.
use Rattle.std.specs.Prelude.{ℕ, ◌≡◌, ◌++◌, ◌∷◌, [], true, List, map, Option, Some, None, is_some}
use Rattle.std.specs.List.{list_all, range_with_len}
use Rattle.journal_model.specs.declared.answer.Answer.{Answer}
use Rattle.journal_model.specs.declared.entry.Entry.{Entry}
use Rattle.journal_model.specs.declared.opening.Opening.{Opening}
use Rattle.journal_model.specs.Legality.{numbers_of}
use Rattle.run_answers.specs.Answers.{answer_of}

-- so many places hold what the entries answer the tasks 1, 2 and so on
abbrev pub HoldsAnswers : ℕ → List Entry → List (Option Answer) → Type 0
HoldsAnswers count past places = places ≡ map (answer_of past) (range_with_len 1 count)

-- where the places hold the answers of some entries, they then hold those of these and of this one
abbrev pub TakesUp : Entry → List (Option Answer) → List (Option Answer) → Type 0
TakesUp e old new = (count : ℕ) (past : List Entry) → HoldsAnswers count past old → HoldsAnswers count (past ++ e ∷ []) new

-- the entries answer each task
abbrev pub AreAllAnswered : Opening → List Entry → Type 0
AreAllAnswered o journal = list_all (λ t. is_some (answer_of journal t)) (numbers_of o) ≡ true

-- the answer that a place holds, if it holds one
abbrev pub held_by : Option Answer → List Answer
held_by None = []
held_by (Some answer) = answer ∷ []
