-- Names with a blank between each two.
use Rattle.std.proofs.Common.{◌≡◌, ℕ, ◌+◌, ◌<◌, ◌≤◌, ◌==◌, Bool, true, false, cond, suc, zero, List, [], ◌∷◌, ◌++◌, length, take, get_or, refl, sym, ap, ◌∙◌, arith, append_assoc}
use Rattle.std.proofs.lemmas.List.{take_more}
use Rattle.std.specs.List.{join_with_byte}

-- one name more after others
join_after : (name first : List ℕ) (names : List (List ℕ)) → join_with_byte 32 ((first ∷ names) ++ name ∷ []) ≡ join_with_byte 32 (first ∷ names) ++ 32 ∷ name
join_after name first [] = refl
join_after name first (next ∷ names) =
    ap (λ (l : List ℕ). first ++ 32 ∷ l) (join_after name next names) ∙ sym (append_assoc first (32 ∷ join_with_byte 32 (next ∷ names)) (32 ∷ name))

join_push : (name : List ℕ) (names : List (List ℕ)) (none : Bool) → (length names == 0) ≡ none
    → join_with_byte 32 names ++ cond none name (32 ∷ name) ≡ join_with_byte 32 (names ++ name ∷ [])
join_push name [] true e = refl
join_push name [] false e = cc
join_push name (first ∷ names) true e = grind (arith, e)
join_push name (first ∷ names) false e = sym (join_after name first names)

-- the name at a place follows those before it
pub join_next : (names : List (List ℕ)) (i : ℕ) (name : List ℕ) → i < length names → get_or names i [] ≡ name → length (take i names) ≡ i
    → join_with_byte 32 (take i names) ++ cond (i == 0) name (32 ∷ name) ≡ join_with_byte 32 (take (i + 1) names)
join_next names i name within is long =
    join_push name (take i names) (i == 0) (ap (λ (n : ℕ). n == 0) long)
    ∙ ap (join_with_byte 32) (ap (λ (n : List ℕ). take i names ++ n ∷ []) (sym is) ∙ sym (take_more names i [] within))
