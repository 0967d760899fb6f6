use Rattle.std.proofs.Common.{◌≡◌, ◌⊎◌, None, Some, inl, inr}
use Rattle.journal_model.specs.declared.answer.Answer.{Answer}
use Rattle.journal_model.specs.declared.answer.Answer.TheVariants.{Memory}
use Rattle.task_model.proofs.laws.check_unknown_runs.Goals as goal

pub returns-clause-failed : goal.returns-clause-failed
returns-clause-failed c = λ answer h. go answer h.1
  where
    go : (answer : Answer) → (answer ≡ Memory) ⊎ (None ≡ Some answer) → answer ≡ Memory
    go answer (inl e) = e
    go answer (inr e) = absurd cc
