-- The question by which a line of the host was changed.
use Rattle.std.proofs.Common.{◌≡◌, ℕ, List, Option, Some, Result, Ok, Err, IfOk}
use Rattle.plain_lines.specs.Words.Changes.{said_by_host}
use Rattle.plain_lines.specs.declared.words.question.Question.{Question}

-- a question is known, so there is one
pub some_question : {E : Type 0} (oldest : Option Question) (line : List ℕ) (r : Result (Option (List ℕ)) E)
    → IfOk r (λ passed. passed ≡ Some (said_by_host oldest line))
    → IfOk r (λ passed. (o : Option Question) × (passed ≡ Some (said_by_host o line)))
some_question oldest line (Ok passed) is = (oldest, is)
some_question oldest line (Err e) is = tt
