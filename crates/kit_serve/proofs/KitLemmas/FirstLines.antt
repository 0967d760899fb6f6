-- The first line of a text.
use Rattle.std.proofs.Common.{◌≡◌, ℕ, suc, List, [], ◌∷◌, ◌+◌, ◌==◌, ◌≤◌, length, take, refl, Bool, true, false, not, cond, Some, None, Option, arith}
use Rattle.std.specs.Prelude.{position, nat_lt}
use Rattle.std.specs.List.{position_or_len, before_first}
use Rattle.std.proofs.Math.Seq.{take_all}
use Rattle.std.proofs.lemmas.Bool.Decides.{nat_tests}
use Rattle.annex_model.specs.Lines.{has_newline}

abbrev pub front_to : Option ℕ → List ℕ → List ℕ
front_to None text = text
front_to (Some at) text = take at text

pub before_by_position : (text : List ℕ) → before_first (λ b. b == 10) text ≡ front_to (position (λ b. b == 10) text) text
before_by_position text = go (nat_lt (position_or_len (λ (b : ℕ). b == 10) text) (length text)) refl
  where
    n : ℕ
    n = position_or_len (λ (b : ℕ). b == 10) text

    go : (b : Bool) → nat_lt n (length text) ≡ b → take n text ≡ front_to (cond b (Some n) None) text
    go true e = refl
    go false e =
        let long : length text ≤ n = grind (arith, nat_tests) in
        take_all n text long

-- no line ends in it
pub before_whole : (text : List ℕ) → has_newline (before_first (λ b. b == 10) text) ≡ false
before_whole [] = refl
before_whole (b ∷ bs) = go (b == 10) refl (before_whole bs)
  where
    n : ℕ
    n = position_or_len (λ (x : ℕ). x == 10) bs

    go : (s : Bool) → (b == 10) ≡ s → has_newline (take n bs) ≡ false → has_newline (take (cond (not s) (1 + n) 0) (b ∷ bs)) ≡ false
    go true e r = refl
    go false e r = let k : 1 + n ≡ suc n = omega arith in rw (k, e) r
