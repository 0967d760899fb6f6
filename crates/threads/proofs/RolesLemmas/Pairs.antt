-- Lists that are related place by place.
use Rattle.std.proofs.Common.{◌≡◌, List, [], ◌∷◌, ◌++◌, refl, ap}
use Rattle.ann_key.specs.Pairs.{Pairwise}

pub pairwise-snoc : {A B : Type 0} (R : A → B → Type 0) (xs : List A) (ys : List B) (x : A) (y : B)
    → Pairwise R xs ys → R x y → Pairwise R (xs ++ x ∷ []) (ys ++ y ∷ [])
pairwise-snoc R [] [] x y all here = (here, tt)
pairwise-snoc R [] (b ∷ ys) x y all here = absurd all
pairwise-snoc R (a ∷ xs) [] x y all here = absurd all
pairwise-snoc R (a ∷ xs) (b ∷ ys) x y all here = (all.0, pairwise-snoc R xs ys x y all.1 here)

-- what relates to a list with one more element has one more element too
pub pairwise-last : {A B : Type 0} (R : A → B → Type 0) (xs : List A) (x : A) (zs : List B)
    → Pairwise R (xs ++ x ∷ []) zs
    → (ys : List B) × (y : B) × (zs ≡ ys ++ y ∷ []) × Pairwise R xs ys × R x y
pairwise-last R [] x [] all = absurd all
pairwise-last R [] x (z ∷ []) all = ([], z, refl, tt, all.0)
pairwise-last R [] x (z ∷ w ∷ zs) all = absurd all.1
pairwise-last R (a ∷ xs) x [] all = absurd all
pairwise-last R (a ∷ xs) x (z ∷ zs) all =
    let (ys, y, is, front, back) = pairwise-last R xs x zs all.1 in (z ∷ ys, y, ap (λ l. z ∷ l) is, (all.0, front), back)
