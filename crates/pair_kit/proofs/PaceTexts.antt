-- Lines by their text, and lists by their ends.
use Rattle.std.proofs.Common.{ℕ, ◌≡◌, ◌==◌, Bool, true, false, List, [], ◌∷◌, ◌++◌, None, refl, sym, ap, subst, ◌∙◌, append_assoc}
use Rattle.std.specs.Prelude.{◌||◌}
use Rattle.std.specs.List.{list_all, last_or}
use Rattle.std.proofs.lemmas.Bool.{or_parts, and_parts, not-true}
use Rattle.std.proofs.lemmas.List.Folds.{list_all-append}
use Rattle.annex_model.specs.Lines.{has_newline, text}
use Rattle.pair_kit.proofs.PaceSaid.{is_one_line}
use Rattle.ann_key.proofs.Lists.{last_or-push as last_is}
use Rattle.std.proofs.lemmas.Option.{same_Some as some_is}

pub heads : {X : Type 0} (x y : X) (xs ys : List X) → x ∷ xs ≡ y ∷ ys → x ≡ y
heads x y xs ys e = cc

pub tails : {X : Type 0} (x y : X) (xs ys : List X) → x ∷ xs ≡ y ∷ ys → xs ≡ ys
tails x y xs ys e = cc

-- ---- the text of lines

no_end : {A : Type 0} (y : ℕ) (ys : List ℕ) → 10 ≡ y → has_newline (y ∷ ys) ≡ false → A
no_end y ys e h = absurd (let bad : (10 == 10 || has_newline ys) ≡ false = subst (λ (n : ℕ). (n == 10 || has_newline ys) ≡ false) (sym e) h in cc)

same_first : (x y r s : List ℕ) → has_newline x ≡ false → has_newline y ≡ false → x ++ 10 ∷ r ≡ y ++ 10 ∷ s → (x ≡ y) × (r ≡ s)
same_first [] [] r s a b e = (refl, tails 10 10 r s e)
same_first [] (y ∷ ys) r s a b e = no_end y ys (heads 10 y r (ys ++ 10 ∷ s) e) b
same_first (x ∷ xs) [] r s a b e = no_end x xs (sym (heads x 10 (xs ++ 10 ∷ r) s e)) a
same_first (x ∷ xs) (y ∷ ys) r s a b e =
    let first : x ≡ y = heads x y (xs ++ 10 ∷ r) (ys ++ 10 ∷ s) e in
    let more = same_first xs ys r s (or_parts (x == 10) (has_newline xs) a).1 (or_parts (y == 10) (has_newline ys) b).1 (tails x y (xs ++ 10 ∷ r) (ys ++ 10 ∷ s) e) in
    (ap (λ (n : ℕ). n ∷ xs) first ∙ ap (λ (l : List ℕ). y ∷ l) more.0, more.1)

no_text : {A : Type 0} (y r : List ℕ) → [] ≡ y ++ 10 ∷ r → A
no_text [] r e = absurd cc
no_text (b ∷ y) r e = absurd cc

-- where a text begins with another one, of lines both, these lines stand first
pub text_front : (xs ys : List (List ℕ)) (rest : List ℕ) → list_all is_one_line xs ≡ true → list_all is_one_line ys ≡ true → text xs ≡ text ys ++ rest
    → (zs : List (List ℕ)) × (xs ≡ ys ++ zs)
text_front xs [] rest a b e = (xs, refl)
text_front [] (y ∷ ys) rest a b e = no_text y (text ys ++ rest) (e ∙ append_assoc y (10 ∷ text ys) rest)
text_front (x ∷ xs) (y ∷ ys) rest a b e =
    let s = and_parts (is_one_line x) (list_all is_one_line xs) a in
    let t = and_parts (is_one_line y) (list_all is_one_line ys) b in
    let first = same_first x y (text xs) (text ys ++ rest) (not-true (has_newline x) s.0) (not-true (has_newline y) t.0) (e ∙ append_assoc y (10 ∷ text ys) rest) in
    let more = text_front xs ys rest s.1 t.1 first.1 in
    (more.0, ap (λ (l : List ℕ). l ∷ xs) first.0 ∙ ap (λ (ls : List (List ℕ)). y ∷ ls) more.1)

-- ---- the ends of lists

pub all_front : {X : Type 0} (p : X → Bool) (xs ys : List X) → list_all p (xs ++ ys) ≡ true → (list_all p xs ≡ true) × (list_all p ys ≡ true)
all_front p xs ys h = and_parts (list_all p xs) (list_all p ys) (sym (list_all-append p xs ys) ∙ h)

pub same_last : {X : Type 0} (xs ys : List X) (x y : X) → xs ++ x ∷ [] ≡ ys ++ y ∷ [] → x ≡ y
same_last {X = X} xs ys x y e = some_is x y (sym (last_is None xs x) ∙ ap (λ (l : List X). last_or None l) e ∙ last_is None ys y)

-- a list is empty, or has a last element
pub record EndsBy {X : Type 0} (xs : List X) : Type 0 where
  pub before : List X
  pub last : X
  pub is : xs ≡ before ++ last ∷ []

pub ends_by : {X : Type 0} (x : X) (xs : List X) → EndsBy (x ∷ xs)
ends_by x [] = record { before = []; last = x; is = refl }
ends_by {X = X} x (y ∷ xs) =
    let more = ends_by y xs in
    record { before = x ∷ more.before; last = more.last; is = ap (λ (l : List X). x ∷ l) more.is }

pub no_last : {A X : Type 0} (xs : List X) (x : X) → [] ≡ xs ++ x ∷ [] → A
no_last [] x e = absurd cc
no_last (y ∷ xs) x e = absurd cc
