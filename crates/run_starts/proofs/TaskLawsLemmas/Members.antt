-- Elements of lists.
use Rattle.std.proofs.Common.{◌≡◌, ◌⊎◌, inl, inr, ℕ, zero, suc, ◌<◌, Bool, true, List, [], ◌∷◌, ◌++◌, length, drop, subst, arith}
use Rattle.std.specs.Prelude.{Contains, Option, Some, None, slice_index_or}
use Rattle.std.specs.List.{list_all, cons_option}
use Rattle.std.proofs.lemmas.Bool.{and_parts}

-- x is one of them
abbrev pub IsIn : {X : Type 0} → X → List X → Type 0
IsIn x [] = ⊥
IsIn x (y ∷ ys) = (y ≡ x) ⊎ IsIn x ys

pub is_in : {X : Type 0} (x : X) (xs : List X) → Contains xs x → IsIn x xs
is_in x xs c = at x xs c.0 c.1 c.2
  where
    at : {Y : Type 0} (y : Y) (ys : List Y) (k : ℕ) → k < length ys → slice_index_or ys k y ≡ y → IsIn y ys
    at y [] k h e = absurd (omega arith)
    at y (z ∷ ys) zero h e = inl e
    at y (z ∷ ys) (suc k) h e = inr (at y ys k (omega arith) e)

pub contained : {X : Type 0} (x : X) (xs : List X) → IsIn x xs → Contains xs x
contained x [] h = absurd h
contained x (y ∷ ys) (inl e) = (0, omega arith, e)
contained x (y ∷ ys) (inr h) = let c = contained x ys h in (suc c.0, behind (length ys) c.0 c.1, c.2)
  where
    behind : (n k : ℕ) → k < n → suc k < suc n
    behind n k h = omega arith

pub in_split : {X : Type 0} (x : X) (xs ys : List X) → IsIn x (xs ++ ys) → IsIn x xs ⊎ IsIn x ys
in_split x [] ys h = inr h
in_split x (z ∷ xs) ys (inl e) = inl (inl e)
in_split x (z ∷ xs) ys (inr h) = by_case (in_split x xs ys h)
  where
    by_case : IsIn x xs ⊎ IsIn x ys → IsIn x (z ∷ xs) ⊎ IsIn x ys
    by_case (inl k) = inl (inr k)
    by_case (inr k) = inr k

pub in_dropped : {X : Type 0} (x : X) (n : ℕ) (xs : List X) → IsIn x (drop n xs) → IsIn x xs
in_dropped x zero xs h = h
in_dropped x (suc n) [] h = absurd h
in_dropped x (suc n) (y ∷ ys) h = inr (in_dropped x n ys h)

pub all_in : {X : Type 0} (p : X → Bool) (xs : List X) (x : X) → list_all p xs ≡ true → IsIn x xs → p x ≡ true
all_in p [] x h k = absurd k
all_in {X} p (y ∷ ys) x h (inl e) = let P : X → Type 0 = λ z. p z ≡ true in subst P e (and_parts (p y) (list_all p ys) h).0
all_in p (y ∷ ys) x h (inr k) = all_in p ys x (and_parts (p y) (list_all p ys) h).1 k

pub in_option : {X : Type 0} (x : X) (o : Option X) (xs : List X) → IsIn x xs → IsIn x (cons_option o xs)
in_option x None xs h = h
in_option x (Some y) xs h = inr h
