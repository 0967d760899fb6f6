-- The first space parts a line.
use Rattle.std.proofs.Common.{◌≡◌, ℕ, suc, List, [], ◌∷◌, ◌+◌, ◌≤◌, length, take, drop, refl, ap, ◌∙◌, Bool, true, false, not, cond, Some, None, Option, arith}
use Rattle.std.specs.Prelude.{position, nat_lt}
use Rattle.std.specs.List.{position_or_len}
use Rattle.std.proofs.Math.Seq.{take_all}
use Rattle.std.proofs.lemmas.Bool.Decides.{nat_tests}
use Rattle.annex_model.specs.Messages.{word_of, field_of, is_space}

abbrev pub word_to : Option ℕ → List ℕ → List ℕ
word_to None line = line
word_to (Some at) line = take at line

abbrev pub field_from : Option ℕ → List ℕ → Option (List ℕ)
field_from None line = None
field_from (Some at) line = Some (drop (at + 1) line)

word_len : (line : List ℕ) → word_of line ≡ take (position_or_len is_space line) line
word_len [] = refl
word_len (b ∷ bs) = go (is_space b) (word_len bs)
  where
    go : (s : Bool) → word_of bs ≡ take (position_or_len is_space bs) bs
        → cond s [] (b ∷ word_of bs) ≡ take (cond (not s) (1 + position_or_len is_space bs) 0) (b ∷ bs)
    go true r = refl
    go false r =
        let e : 1 + position_or_len is_space bs ≡ suc (position_or_len is_space bs) = omega arith in
        rw e (ap (λ (xs : List ℕ). b ∷ xs) r)

field_len : (line : List ℕ)
    → field_of line ≡ cond (nat_lt (position_or_len is_space line) (length line)) (Some (drop (position_or_len is_space line + 1) line)) None
field_len [] = refl
field_len (b ∷ bs) = go (is_space b) (field_len bs)
  where
    n : ℕ
    n = position_or_len is_space bs

    go : (s : Bool) → field_of bs ≡ cond (nat_lt n (length bs)) (Some (drop (n + 1) bs)) None
        → cond s (Some bs) (field_of bs)
        ≡ cond (nat_lt (cond (not s) (1 + n) 0) (length (b ∷ bs))) (Some (drop (cond (not s) (1 + n) 0 + 1) (b ∷ bs))) None
    go true r =
        let t : nat_lt 0 (suc (length bs)) ≡ true = grind (arith, nat_tests) in
        rw t refl
    go false r =
        let t : nat_lt (1 + n) (suc (length bs)) ≡ nat_lt n (length bs) = by_less (nat_lt n (length bs)) refl in
        let e : 1 + n + 1 ≡ suc (n + 1) = omega arith in
        rw (t, e) r
      where
        by_less : (b : Bool) → nat_lt n (length bs) ≡ b → nat_lt (1 + n) (suc (length bs)) ≡ b
        by_less true h = grind (arith, nat_tests)
        by_less false h = grind (arith, nat_tests)

pub word_by_position : (line : List ℕ) → word_of line ≡ word_to (position is_space line) line
word_by_position line = go (nat_lt (position_or_len is_space line) (length line)) refl
  where
    go : (b : Bool) → nat_lt (position_or_len is_space line) (length line) ≡ b → word_of line ≡ word_to (cond b (Some (position_or_len is_space line)) None) line
    go true e = word_len line
    go false e =
        let long : length line ≤ position_or_len is_space line = grind (arith, nat_tests) in
        word_len line ∙ take_all (position_or_len is_space line) line long

pub field_by_position : (line : List ℕ) → field_of line ≡ field_from (position is_space line) line
field_by_position line = go (nat_lt (position_or_len is_space line) (length line)) refl
  where
    go : (b : Bool) → nat_lt (position_or_len is_space line) (length line) ≡ b → field_of line ≡ field_from (cond b (Some (position_or_len is_space line)) None) line
    go true e = field_len line ∙ rw e refl
    go false e = field_len line ∙ rw e refl
