-- Names that are one or differ.
use Rattle.std.proofs.Common.{◌≡◌, ◌∙◌, ℕ, ◌+◌, List, ◌∷◌, ◌++◌, length, refl, ap, arith, length-append}
use Rattle.task_model.specs.Askers.{AskerTold, IsSameTask}

-- a text is not itself with something after it
pub longer_differs : (a : List ℕ) (b : ℕ) (c : List ℕ) → a ≡ a ++ b ∷ c → ⊥
longer_differs a b c e = let n : length a ≡ length (a ++ b ∷ c) = ap length e in let m : length (a ++ b ∷ c) ≡ length a + length (b ∷ c) = length-append a (b ∷ c) in omega arith

-- the same task, before any call and by one call after another
pub same_still : (a : AskerTold) → IsSameTask a a
same_still a = record { task_is = refl; may_note_is = refl; loans_are = refl }

pub same_on : {a b c : AskerTold} → IsSameTask a b → IsSameTask b c → IsSameTask a c
same_on s r = record { task_is = r.task_is ∙ s.task_is; may_note_is = r.may_note_is ∙ s.may_note_is; loans_are = r.loans_are ∙ s.loans_are }
