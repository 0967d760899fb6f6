-- A part of a list, by the places where it begins and ends.
use Rattle.std.proofs.Common.{◌≡◌, ℕ, ◌+◌, ◌-◌, ◌≤◌, List, [], ◌∷◌, length, take, drop, refl, sym, ap, ◌∙◌, arith, length-drop}
use Rattle.std.specs.Prelude.{slice_get, slice_range, None}
use Rattle.std.proofs.lemmas.List.{length-take-le, drop-take, drop-drop}

pub length_part : {X : Type 0} (xs : List X) (from to : ℕ) → from ≤ to → to ≤ length xs → length (slice_range xs from to) ≡ to - from
length_part xs from to low high = length-take-le (to - from) (drop from xs) (omega (arith, length-drop from xs))

pub behind_part : {X : Type 0} (xs : List X) (from to n : ℕ) → n ≤ to - from → slice_range xs (from + n) to ≡ drop n (slice_range xs from to)
behind_part xs from to n l =
    let rest : to - from ≡ n + (to - (from + n)) = omega arith in
    sym
    (ap (λ (k : ℕ). drop n (take k (drop from xs))) rest
    ∙ drop-take n (to - (from + n)) (drop from xs)
    ∙ ap (take (to - (from + n))) (drop-drop n from xs))

pub none_first : {X : Type 0} (xs : List X) → None ≡ slice_get xs 0 → xs ≡ []
none_first [] is = refl
none_first (x ∷ xs) is = absurd (cc)
