-- The hex text of bytes, byte by byte.
use Rattle.std.proofs.Common.{◌≡◌, ℕ, zero, suc, ◌+◌, ◌/◌, ◌%◌, ◌<◌, List, [], ◌∷◌, ◌++◌, Bool, true, false, inl, inr, length, take, get_or, refl, sym, ap, ◌∙◌, arith}
use Rattle.std.specs.Prelude.{◌==◌, ◌&&◌}
use Rattle.std.proofs.lemmas.Bool.{and_parts, cases_lt, eqb-true}
use Rattle.std.proofs.lemmas.List.{take_more}
use Rattle.std.specs.Fmt.{digit_glyph}
use Rattle.hex.specs.Hex.{encode_with, encode_lower, lower_digits}

pub encode_with-append : (t xs ys : List ℕ) → encode_with t (xs ++ ys) ≡ encode_with t xs ++ encode_with t ys
unfolding encode_with
encode_with-append t [] ys = refl
encode_with-append t (x ∷ xs) ys = let e : encode_with t (xs ++ ys) ≡ encode_with t xs ++ encode_with t ys = encode_with-append t xs ys in rw e refl

same_glyph : ℕ → Bool
same_glyph d = get_or lower_digits d 0 == digit_glyph false d

-- the digits below n are printed as the table has them
same_below : ℕ → Bool
same_below zero = true
same_below (suc n) = same_glyph n && same_below n

same_below-at : (n d : ℕ) → same_below n ≡ true → d < n → same_glyph d ≡ true
unfolding same_below
same_below-at zero d h below = absurd (omega arith)
same_below-at (suc n) d h below =
    let parts = and_parts (same_glyph n) (same_below n) h in
    elim (cases_lt d n) [
      | inl less ↦ same_below-at n d parts.1 less
      | inr top ↦
          let e : d ≡ n = omega arith in
          rw e parts.0
    ]

glyph_is : (d : ℕ) → d < 16 → get_or lower_digits d 0 ≡ digit_glyph false d
unfolding same_glyph same_below
glyph_is d h = eqb-true (get_or lower_digits d 0) (digit_glyph false d) (same_below-at 16 d refl h)

-- one byte more
pub encode_lower-more : (xs : List ℕ) (i : ℕ) → i < length xs → get_or xs i 0 < 256
    → encode_lower (take i xs) ++ digit_glyph false (get_or xs i 0 / 16) ∷ digit_glyph false (get_or xs i 0 % 16) ∷ [] ≡ encode_lower (take (i + 1) xs)
unfolding encode_with
encode_lower-more xs i h b =
    let high : get_or xs i 0 / 16 < 16 = omega arith in
    let low : get_or xs i 0 % 16 < 16 = omega arith in
    let e : encode_lower (take i xs ++ get_or xs i 0 ∷ []) ≡ encode_lower (take i xs) ++ encode_lower (get_or xs i 0 ∷ []) = encode_with-append lower_digits (take i xs) (get_or xs i 0 ∷ []) in
    let last : encode_lower (get_or xs i 0 ∷ []) ≡ digit_glyph false (get_or xs i 0 / 16) ∷ digit_glyph false (get_or xs i 0 % 16) ∷ [] = rw (← glyph_is (get_or xs i 0 / 16) high, ← glyph_is (get_or xs i 0 % 16) low) refl in
    sym (ap encode_lower (take_more xs i 0 h) ∙ e ∙ ap (λ (s : List ℕ). encode_lower (take i xs) ++ s) last)
