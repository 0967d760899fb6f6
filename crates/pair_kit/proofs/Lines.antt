-- The first line of bytes.
use Rattle.std.proofs.Common.{ℕ, ◌≡◌, ◌+◌, ◌<◌, Bool, true, false, not, cond, List, [], ◌∷◌, ◌++◌, length, take, get_or, refl, ap, ◌∙◌, arith, append_assoc}
use Rattle.std.specs.Prelude.{◌||◌, ◌==◌}
use Rattle.std.proofs.lemmas.List.{take_all}
use Rattle.annex_model.specs.Lines.{has_newline, text}
use Rattle.wire_line.specs.HeldBytes.{first_line, after_line}
use Rattle.wire_line.proofs.Firsts.{end_of, split_line}
use Rattle.annex_model.proofs.Across.{text_next}

-- where the first line ends within the bytes, there is a line end
pub has_of : (bytes : List ℕ) → end_of bytes < length bytes → has_newline bytes ≡ true
has_of [] h = absurd (omega (arith, h))
has_of (x ∷ xs) h = go (x == 10) h (λ k. has_of xs k)
  where
    go : (b : Bool) → cond (not b) (1 + end_of xs) 0 < length (x ∷ xs) → (end_of xs < length xs → has_newline xs ≡ true) → (b || has_newline xs) ≡ true
    go true k r = refl
    go false k r = r (omega (arith, k))

pub has_end : (bytes : List ℕ) → has_newline bytes ≡ true → end_of bytes < length bytes
has_end [] h = cc
has_end (x ∷ xs) h = go (x == 10) h (λ k. has_end xs k)
  where
    go : (b : Bool) → (b || has_newline xs) ≡ true → (has_newline xs ≡ true → end_of xs < length xs) → cond (not b) (1 + end_of xs) 0 < length (x ∷ xs)
    go true k r = omega arith
    go false k r = let s = r k in omega (arith, s)

pub lacks_of : (bytes : List ℕ) → end_of bytes ≡ length bytes → has_newline bytes ≡ false
lacks_of [] h = refl
lacks_of (x ∷ xs) h = go (x == 10) h (λ k. lacks_of xs k)
  where
    go : (b : Bool) → cond (not b) (1 + end_of xs) 0 ≡ length (x ∷ xs) → (end_of xs ≡ length xs → has_newline xs ≡ false) → (b || has_newline xs) ≡ false
    go true k r = absurd (omega (arith, k))
    go false k r = r (omega (arith, k))

-- without a line end all is the first line
all_of : (xs : List ℕ) → has_newline xs ≡ false → end_of xs ≡ length xs
all_of [] e = refl
all_of (x ∷ xs) e = go (x == 10) e (λ k. all_of xs k)
  where
    go : (b : Bool) → (b || has_newline xs) ≡ false → (has_newline xs ≡ false → end_of xs ≡ length xs) → cond (not b) (1 + end_of xs) 0 ≡ length (x ∷ xs)
    go true k r = cc
    go false k r = let s = r k in omega (arith, s)

pub first_all : (side : List ℕ) → has_newline side ≡ false → first_line side ≡ side
first_all side none = ap (λ (n : ℕ). take n side) (all_of side none) ∙ take_all (length side) side (omega arith)

-- the bytes are the first line, its byte 10 and what follows
pub first_split : (side : List ℕ) → has_newline side ≡ true → side ≡ first_line side ++ 10 ∷ after_line side
first_split side h = split_line side (has_end side h)

-- ---- the text of lines that are gone through

pub text_more : (old now new : List ℕ) (ls : List (List ℕ)) (i : ℕ) (line : List ℕ) → i < length ls → get_or ls i [] ≡ line
    → now ≡ old ++ text (take i ls) → new ≡ now ++ line ++ 10 ∷ [] → new ≡ old ++ text (take (i + 1) ls)
text_more old now new ls i line within is so step =
    step ∙ append_assoc now line (10 ∷ []) ∙ ap (λ (l : List ℕ). l ++ (line ++ 10 ∷ [])) so ∙ append_assoc old (text (take i ls)) (line ++ 10 ∷ [])
    ∙ ap (λ (l : List ℕ). old ++ l) (text_next ls i line within is)
