-- What several crates above this one use.
use Rattle.std.proofs.Common.{ℕ, ◌≡◌, ◌+◌, ◌-◌, List, [], ◌∷◌, ◌++◌}
use Rattle.annex_model.specs.Lines.{text}
use Rattle.annex_model.proofs.Across.{text-append}

pub text_line : (lines : List (List ℕ)) (line : List ℕ) → text (lines ++ line ∷ []) ≡ text lines ++ (line ++ 10 ∷ [])
text_line lines line = text-append lines (line ∷ [])
