-- Fields that are put one after the other.
use Rattle.std.proofs.Common.{◌≡◌, ℕ, List, [], ◌∷◌, ◌++◌, refl, sym, ap, ◌∙◌, append_assoc}
use Rattle.journal_text.specs.Entries.Fields.{followed}

followed-append : (a b : List (List ℕ)) → followed (a ++ b) ≡ followed a ++ followed b
followed-append [] b = refl
followed-append (x ∷ a) b = ap (λ (t : List ℕ). (32 ∷ x) ++ t) (followed-append a b) ∙ sym (append_assoc (32 ∷ x) (followed a) (followed b))

-- some fields, and then some more
pub put_behind : (a b : List (List ℕ)) (start middle whole : List ℕ) → middle ≡ start ++ followed a → whole ≡ middle ++ followed b → whole ≡ start ++ followed (a ++ b)
put_behind a b start middle whole h k =
    k ∙ ap (λ (t : List ℕ). t ++ followed b) h ∙ append_assoc start (followed a) (followed b) ∙ ap (λ (t : List ℕ). start ++ t) (sym (followed-append a b))
