-- How much of a text was written.
use Rattle.std.proofs.Common.{ℕ, ◌+◌, List, ◌∷◌, ◌++◌, length, take, Option, sym, ap, subst}
use Rattle.std.proofs.Math.Seq.{take-append-add, take-length}
use Rattle.std.specs.Io.KnownBytes.{Appends}
use Rattle.ann_outside.proofs.Telling.{appends_both}

-- a whole text, and then the first bytes of what follows it
pub prefix_more : (a b c : Option (List ℕ)) (xs ys : List ℕ) → Appends a b xs
    → ((n : ℕ) × Appends b c (take n ys)) → (m : ℕ) × Appends a c (take m (xs ++ ys))
prefix_more a b c xs ys p q =
    (length xs + q.0, subst (λ (l : List ℕ). Appends a c l) (sym (take-append-add xs ys q.0)) (appends_both a b c xs (take q.0 ys) p q.1))
