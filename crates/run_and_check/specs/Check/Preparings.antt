-- What a check is done with, and how its answers are taken.
use Rattle.std.specs.Prelude.{ℕ, ◌≡◌, false, List, [], Result, IsOk}
use Rattle.ann_key.specs.declared.bytes.NoMemory.{NoMemory}
use Rattle.journal_model.specs.declared.answer.Answer.{Answer}
use Rattle.journal_model.specs.declared.entry.Entry.{Entry}
use Rattle.journal_model.specs.declared.opening.Opening.{Opening}
use Rattle.run_answers.specs.Answers.{AreAnswers}
use Rattle.run_and_check.specs.declared.check.made.CheckEnd.{CheckEnd}
use Rattle.run_and_check.specs.declared.check.made.CheckEnd.TheVariants.{Answered, Memory}
use Rattle.run_and_check.specs.declared.check.preparing.Ready.{Ready}
use Rattle.run_and_check.specs.Check.Checks.{check_opening, check_setup}

-- the core is that of a check of the key, with an empty journal, and the plan has one start that doesn't offer ASYNC
pub record IsPrepared (program key : List ℕ) (stamp : ℕ) (r : Ready) : Type 0 where
  pub opening : r.core.opening ≡ check_opening key stamp
  pub empty : r.core.journal ≡ []
  pub tasks : r.tasks ≡ r.core.opening.tasks
  pub plan : r.plan ≡ record { program = program; starts = 1; offers = false; setup = check_setup stamp }

-- the answers of a run that came to its end, or none for lack of memory
abbrev pub AnswersAs : Opening → List Entry → Result (Unit {0}) NoMemory → List Answer → CheckEnd → Type 0
AnswersAs o journal ran answers Answered = IsOk ran × AreAnswers o journal answers
AnswersAs o journal ran answers Memory = answers ≡ []
