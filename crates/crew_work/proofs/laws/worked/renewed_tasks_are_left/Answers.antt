use Rattle.std.proofs.Common.{◌≡◌, true, false, refl, ◌⊎◌, inl, inr}
use Rattle.crew_work.proofs.laws.worked.renewed_tasks_are_left.Goals as goal

pub returns-clause-gone : goal.returns-clause-gone
returns-clause-gone f = λ h. inr refl

pub returns-clause-there : goal.returns-clause-there
returns-clause-there f = λ through. never (through refl)
  where
    never : (false ≡ true) ⊎ (false ≡ true) → ⊥
    never (inl h) = absurd cc
    never (inr h) = absurd cc

pub returns-clause-another_number : goal.returns-clause-another_number
returns-clause-another_number f = λ h. absurd cc
