-- The first line of an input, and what stands after its end.
use Rattle.std.proofs.Common.{◌≡◌, ℕ, suc, ◌+◌, ◌<◌, ◌≤◌, ◌==◌, Bool, true, false, not, cond, List, [], ◌∷◌, take, drop, length, refl, sym, ap, ◌∙◌, arith, length-drop}
use mathlib.Core.Bool.{false≢true}
use Rattle.std.specs.Prelude.{◌||◌}
use Rattle.std.specs.List.{before_first, after_first, list_any, position_or_len}
use Rattle.std.proofs.lemmas.Bool.Decides.{nat_tests}
use Rattle.cli_words.specs.TaskInput.InputLines.{has_line, is_end, lines_of, with_byte}

module _ (last : Bool) where
  -- the line goes on with one byte more before it, or ends there
  cut_more : (b : ℕ) (bs : List ℕ) (n : ℕ) (rest : lines_of last bs ≡ take n bs ∷ lines_of last (drop (n + 1) bs)) (s : Bool)
      → cond s ([] ∷ lines_of last bs) (with_byte last b (lines_of last bs)) ≡ take (cond (not s) (1 + n) 0) (b ∷ bs) ∷ lines_of last (drop (cond (not s) (1 + n) 0 + 1) (b ∷ bs))
  cut_more b bs n rest true = refl
  cut_more b bs n rest false =
      let e : 1 + n ≡ suc n = omega arith in
      let f : suc n + 1 ≡ suc (n + 1) = omega arith in
      ap (with_byte last b) rest ∙ rw (e, f) refl

cut_last : (b : ℕ) (s : Bool)
    → cond s ([] ∷ []) ((b ∷ []) ∷ []) ≡ take (cond (not s) (1 + 0) 0) (b ∷ []) ∷ lines_of true (drop (cond (not s) (1 + 0) 0 + 1) (b ∷ []))
cut_last b true = refl
cut_last b false = refl

cut_any : (b : ℕ) (bs : List ℕ) → lines_of true (b ∷ bs) ≡ before_first is_end (b ∷ bs) ∷ lines_of true (after_first is_end (b ∷ bs))
cut_any b [] = cut_last b (is_end b)
cut_any b (c ∷ cs) = cut_more true b (c ∷ cs) (position_or_len is_end (c ∷ cs)) (cut_any c cs) (is_end b)

cut_ended : (bs : List ℕ) → list_any is_end bs ≡ true → lines_of false bs ≡ before_first is_end bs ∷ lines_of false (after_first is_end bs)
cut_ended [] h = absurd (false≢true h)
cut_ended (b ∷ bs) h = go (is_end b) h (cut_ended bs)
  where
    go : (s : Bool) → (s || list_any is_end bs) ≡ true
        → (list_any is_end bs ≡ true → lines_of false bs ≡ before_first is_end bs ∷ lines_of false (after_first is_end bs))
        → cond s ([] ∷ lines_of false bs) (with_byte false b (lines_of false bs))
        ≡ take (cond (not s) (1 + position_or_len is_end bs) 0) (b ∷ bs) ∷ lines_of false (drop (cond (not s) (1 + position_or_len is_end bs) 0 + 1) (b ∷ bs))
    go true h rest = refl
    go false h rest = cut_more false b bs (position_or_len is_end bs) (rest h) false

pub first_line : (last : Bool) (xs : List ℕ) → has_line last xs ≡ true → lines_of last xs ≡ before_first is_end xs ∷ lines_of last (after_first is_end xs)
first_line true [] h = absurd (false≢true h)
first_line true (b ∷ bs) h = cut_any b bs
first_line false xs h = cut_ended xs h

none_ended : (bs : List ℕ) → list_any is_end bs ≡ false → lines_of false bs ≡ []
none_ended [] h = refl
none_ended (b ∷ bs) h = go (is_end b) h (none_ended bs)
  where
    go : (s : Bool) → (s || list_any is_end bs) ≡ false → (list_any is_end bs ≡ false → lines_of false bs ≡ [])
        → cond s ([] ∷ lines_of false bs) (with_byte false b (lines_of false bs)) ≡ []
    go true h rest = absurd (false≢true (sym h))
    go false h rest = ap (with_byte false b) (rest h)

pub no_line : (last : Bool) (xs : List ℕ) → has_line last xs ≡ false → lines_of last xs ≡ []
no_line true [] h = refl
no_line true (b ∷ bs) h = absurd (let some : (suc (length bs) == 0) ≡ false = grind (arith, nat_tests) in false≢true (sym h ∙ ap not some))
no_line false xs h = none_ended xs h

some_byte : (last : Bool) (xs : List ℕ) → has_line last xs ≡ true → 0 < length xs
some_byte true [] h = absurd (false≢true h)
some_byte false [] h = absurd (false≢true h)
some_byte last (b ∷ bs) h = omega arith

-- what stands after a line's end is shorter
pub shorter : (last : Bool) (xs : List ℕ) → has_line last xs ≡ true → length (after_first is_end xs) + 1 ≤ length xs
shorter last xs h = let some = some_byte last xs h in omega (arith, length-drop (position_or_len is_end xs + 1) xs)
