-- A task that no child takes: it is claimed without one and answered at once.
use Rattle.std.specs.Prelude.{ℕ, ◌≡◌, List, ◌∷◌, ◌++◌, Option, Some, None}
use Rattle.journal_model.specs.declared.answer.Answer.{Answer}
use Rattle.journal_model.specs.declared.entry.What.TheVariants.{Claim, Answer as Answered}
use Rattle.journal_model.specs.declared.entry.Entry.{Entry}
use Rattle.journal_model.specs.Legality.{count}
use Rattle.task_model.specs.TaskRuns.{failed_start}
use Rattle.run_starts.specs.Rounds.{left_answer, start_untaken}
use Rattle.run_starts.specs.Stints.{main_entry}
use Rattle.run_children.specs.PoolChildren.Slots.{AreSpent, is_first_start}

-- The start of slot 0 before it gave no child that is ready, and this is what came of it; or there is no such start, slot 0 has made all
-- its starts, and each is spent.
abbrev pub UnservedAnswers : ℕ → List Entry → Option Answer → ℕ → Answer → Type 0
UnservedAnswers limit past (Some failed) t answer = answer ≡ failed
UnservedAnswers limit past None t answer = (count is_first_start past ≡ limit) × AreSpent past × (answer ≡ left_answer past t)

-- The task was claimed without a child and answered at once.
pub record IsUnserved (limit : ℕ) (journal : List Entry) (t : ℕ) (answer : Answer) : Type 0 where
  pub past : List Entry
  pub rest : List Entry
  pub is : journal ≡ past ++ main_entry (Claim t 0) ∷ main_entry (Answered t answer) ∷ rest
  pub answers : UnservedAnswers limit past (failed_start past (start_untaken past)) t answer
