-- The first line of a text, and what follows its end.
use Rattle.std.proofs.Common.{◌≡◌, ℕ, suc, ◌+◌, ◌<◌, ◌≤◌, ◌==◌, Bool, true, false, not, cond, List, [], ◌∷◌, take, drop, length, refl, sym, ap, ◌∙◌, arith, length-drop}
use mathlib.Core.Bool.{false≢true}
use Rattle.std.specs.List.{before_first, after_first, position_or_len}
use Rattle.std.proofs.lemmas.Bool.Decides.{nat_tests}
use Rattle.annex_model.specs.Lines.{has_newline}
use Rattle.kept_file.specs.Text.KeptFiles.{lines_in, with_byte}

abbrev is_end : ℕ → Bool
is_end b = b == 10

abbrev before : List ℕ → List ℕ
before xs = before_first (λ b. b == 10) xs

abbrev behind : List ℕ → List ℕ
behind xs = after_first (λ b. b == 10) xs

cut_last : (b : ℕ) (s : Bool) → cond s ([] ∷ []) ((b ∷ []) ∷ []) ≡ take (cond (not s) (1 + 0) 0) (b ∷ []) ∷ lines_in (drop (cond (not s) (1 + 0) 0 + 1) (b ∷ []))
cut_last b true = refl
cut_last b false = refl

cut_more : (b : ℕ) (bs : List ℕ) (n : ℕ) (rest : lines_in bs ≡ take n bs ∷ lines_in (drop (n + 1) bs)) (s : Bool)
    → cond s ([] ∷ lines_in bs) (with_byte b (lines_in bs)) ≡ take (cond (not s) (1 + n) 0) (b ∷ bs) ∷ lines_in (drop (cond (not s) (1 + n) 0 + 1) (b ∷ bs))
cut_more b bs n rest true = refl
cut_more b bs n rest false =
    let e : 1 + n ≡ suc n = omega arith in
    let f : suc n + 1 ≡ suc (n + 1) = omega arith in
    ap (with_byte b) rest ∙ rw (e, f) refl

cut : (b : ℕ) (bs : List ℕ) → lines_in (b ∷ bs) ≡ before (b ∷ bs) ∷ lines_in (behind (b ∷ bs))
cut b [] = cut_last b (b == 10)
cut b (c ∷ cs) = cut_more b (c ∷ cs) (position_or_len (λ b. b == 10) (c ∷ cs)) (cut c cs) (b == 10)

pub first_line : (xs : List ℕ) → (length xs == 0) ≡ false → lines_in xs ≡ before xs ∷ lines_in (behind xs)
first_line [] h = absurd (false≢true (sym h))
first_line (b ∷ bs) h = cut b bs

no_end_more : (b : ℕ) (bs : List ℕ) (n : ℕ) → not (has_newline (take n bs)) ≡ true → (s : Bool) → (b == 10) ≡ s → not (has_newline (take (cond (not s) (1 + n) 0) (b ∷ bs))) ≡ true
no_end_more b bs n rest true e = refl
no_end_more b bs n rest false e = let f : 1 + n ≡ suc n = omega arith in rw (f, e) rest

pub no_end : (xs : List ℕ) → not (has_newline (before xs)) ≡ true
no_end [] = refl
no_end (b ∷ bs) = no_end_more b bs (position_or_len (λ b. b == 10) bs) (no_end bs) (b == 10) refl

pub shorter : (xs : List ℕ) → (length xs == 0) ≡ false → length (behind xs) + 1 ≤ length xs
shorter xs h =
    let n = position_or_len (λ b. b == 10) xs in
    let some : 0 < length xs = grind (arith, nat_tests) in
    omega (arith, length-drop (n + 1) xs)
