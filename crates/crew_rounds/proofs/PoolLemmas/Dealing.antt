-- The first of a list, when the others were dealt from its end.
use Rattle.std.proofs.Common.{◌≡◌, ◌+◌, List, [], ◌∷◌, ◌++◌, refl, ap, ◌∙◌, length, suc, arith, length-append}

-- all but the first were dealt, and the first was taken from what was left
pub first_left : {X : Type 0} (all old new ys : List X) (x : X) → all ≡ old ++ ys → old ≡ new ++ x ∷ [] → length all ≡ 1 + length ys → (all ≡ x ∷ ys) × (new ≡ [])
first_left {X} all old new ys x dealt popped many = go new popped
  where
    go : (n : List X) → old ≡ n ++ x ∷ [] → (all ≡ x ∷ ys) × (n ≡ [])
    go [] e = (dealt ∙ ap (λ l. l ++ ys) e, refl)
    go (z ∷ zs) e =
        let whole : length all ≡ length old + length ys = ap length dealt ∙ length-append old ys in
        let some : length old ≡ suc (length zs + 1) = ap length e ∙ ap suc (length-append zs (x ∷ [])) in
        absurd (omega (arith, whole, some, many))
