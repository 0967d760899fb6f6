-- A list cut at its first space or byte 9: the first element that passes p, where p passes nothing but the mark m.
use Rattle.std.proofs.Common.{◌≡◌, ℕ, suc, ◌+◌, ◌<◌, Bool, true, false, not, cond, List, [], ◌∷◌, ◌++◌, length, take, drop, refl, ap, ◌∙◌, arith, ⊎_elim}
use Rattle.std.specs.List.{list_any, position_or_len, before_first, after_first}
use Rattle.std.proofs.lemmas.Bool.{cases_lt, eqb-true, or_from}
use Rattle.std.proofs.lemmas.List.{take_at, drop_all}
use Rattle.std.proofs.Math.Seq.{drop-append-add}
use Rattle.std.proofs.lemmas.List.Sums.{passes_at_first, split_at_first}
use Rattle.task_text.specs.TaskLines.{is_space, is_tab}
use Rattle.ann_key.proofs.Booleans.{one_more, right_false as later_lacks}

mark_behind : (p : ℕ → Bool) (m : ℕ) → p m ≡ true → (word rest : List ℕ) → list_any p word ≡ false
    → position_or_len p (word ++ m ∷ rest) ≡ length word
mark_behind p m is [] rest none = rw is refl
mark_behind p m is (x ∷ xs) rest none =
    one_more (p x) (list_any p xs) _ _ none (mark_behind p m is xs rest (later_lacks (p x) (list_any p xs) none))

before_mark : (p : ℕ → Bool) (m : ℕ) → p m ≡ true → (word rest : List ℕ) → list_any p word ≡ false → before_first p (word ++ m ∷ rest) ≡ word
before_mark p m is word rest none =
    ap (λ n. take n (word ++ m ∷ rest)) (mark_behind p m is word rest none) ∙ take_at word (m ∷ rest) (length word) refl

after_mark : (p : ℕ → Bool) (m : ℕ) → p m ≡ true → (word rest : List ℕ) → list_any p word ≡ false → after_first p (word ++ m ∷ rest) ≡ rest
after_mark p m is word rest none =
    ap (λ n. drop (n + 1) (word ++ m ∷ rest)) (mark_behind p m is word rest none) ∙ drop-append-add word (m ∷ rest) 1

split_at_mark : (p : ℕ → Bool) (m : ℕ) → ((b : ℕ) → p b ≡ true → b ≡ m) → (bytes : List ℕ) → (after_first p bytes ≡ [] → ⊥)
    → bytes ≡ before_first p bytes ++ m ∷ after_first p bytes
split_at_mark p m only bytes some =
    let at = position_or_len p bytes in
    let within : at < length bytes =
    ⊎_elim (λ inside. inside) (λ past. absurd (some (drop_all (at + 1) bytes (omega arith)))) (cases_lt at (length bytes)) in
    split_at_first p bytes 0 within ∙ ap (λ x. before_first p bytes ++ x ∷ after_first p bytes) (only _ (passes_at_first p bytes 0 within))

-- what stands before and after the space, or the byte 9, that follows a list without one
pub before_space : (word rest : List ℕ) → list_any is_space word ≡ false → before_first is_space (word ++ 32 ∷ rest) ≡ word
before_space = before_mark is_space 32 refl

pub after_space : (word rest : List ℕ) → list_any is_space word ≡ false → after_first is_space (word ++ 32 ∷ rest) ≡ rest
after_space = after_mark is_space 32 refl

pub before_tab : (word rest : List ℕ) → list_any is_tab word ≡ false → before_first is_tab (word ++ 9 ∷ rest) ≡ word
before_tab = before_mark is_tab 9 refl

pub after_tab : (word rest : List ℕ) → list_any is_tab word ≡ false → after_first is_tab (word ++ 9 ∷ rest) ≡ rest
after_tab = after_mark is_tab 9 refl

-- where something follows the first space, or the first byte 9, there is one
pub split_at_space : (bytes : List ℕ) → (after_first is_space bytes ≡ [] → ⊥)
    → bytes ≡ before_first is_space bytes ++ 32 ∷ after_first is_space bytes
split_at_space = split_at_mark is_space 32 (λ b is. eqb-true b 32 is)

pub split_at_tab : (bytes : List ℕ) → (after_first is_tab bytes ≡ [] → ⊥)
    → bytes ≡ before_first is_tab bytes ++ 9 ∷ after_first is_tab bytes
split_at_tab = split_at_mark is_tab 9 (λ b is. eqb-true b 9 is)

one_up : (n : ℕ) → 1 + n ≡ suc n
one_up n = omega arith

-- nothing that stands before the first passes
pub none_before : (p : ℕ → Bool) (bytes : List ℕ) → list_any p (before_first p bytes) ≡ false
none_before p [] = refl
none_before p (x ∷ xs) = by (p x) refl (none_before p xs)
  where
    by : (b : Bool) → p x ≡ b → list_any p (before_first p xs) ≡ false
        → list_any p (take (cond (not b) (1 + position_or_len p xs) 0) (x ∷ xs)) ≡ false
    by true is later = refl
    by false is later = rw (one_up (position_or_len p xs)) (or_from (p x) _ is later)
