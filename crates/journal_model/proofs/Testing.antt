-- Tests along a list, and who made what.
use Rattle.std.proofs.Common.{◌≡◌, ◌≢◌, ℕ, List, [], ◌∷◌, ◌++◌, refl, sym, ap, ◌∙◌, Bool, true, false, not, ◌==◌}
use Rattle.std.specs.Prelude.{◌&&◌, ◌||◌}
use Rattle.std.specs.List.{list_any, list_all}
use Rattle.std.proofs.lemmas.List.Folds.{list_all-append}
use Rattle.journal_model.specs.declared.entry.What.{What}
use Rattle.journal_model.specs.declared.entry.Entry.{Entry}
use Rattle.journal_model.specs.Journal.{any}
use Rattle.journal_model.specs.Due.{made_by}
use Rattle.journal_model.specs.Shares.{are_own, makes_only, are_others}
use Rattle.ann_key.proofs.Booleans.{or_right, or_left, left_false as either_left, right_false as either_right}
use Rattle.std.proofs.lemmas.Bool.{and_parts as both, eqb-true as same_number, ne_eqb as differ}
use Rattle.ann_key.proofs.Numbers.{same_number as same}

-- ---- along a list

module _ {X : Type 0} where
  pub all-split : (p : X → Bool) (xs ys : List X) → list_all p (xs ++ ys) ≡ true → (list_all p xs ≡ true) × (list_all p ys ≡ true)
  all-split p xs ys h = both (list_all p xs) (list_all p ys) (sym (list_all-append p xs ys) ∙ h)

  pub all-join : (p : X → Bool) (xs ys : List X) → list_all p xs ≡ true → list_all p ys ≡ true → list_all p (xs ++ ys) ≡ true
  all-join p xs ys a b = list_all-append p xs ys ∙ (rw (a, b) refl)

  pub all-both : (p q r : X → Bool) → ((x : X) → p x ≡ true → q x ≡ true → r x ≡ true) → (xs : List X)
      → list_all p xs ≡ true → list_all q xs ≡ true → list_all r xs ≡ true
  all-both p q r f [] a b = refl
  all-both p q r f (x ∷ xs) a b =
      let s = both (p x) (list_all p xs) a in
      let t = both (q x) (list_all q xs) b in
      rw (f x s.0 t.0, all-both p q r f xs s.1 t.1) refl

  pub all-each : (p r : X → Bool) → ((x : X) → p x ≡ true → r x ≡ true) → (xs : List X) → list_all p xs ≡ true → list_all r xs ≡ true
  all-each p r f xs a = all-both p p r (λ x h k. f x h) xs a a

  pub none-each : (p q : X → Bool) → ((x : X) → q x ≡ true → p x ≡ false) → (xs : List X) → list_all q xs ≡ true → list_any p xs ≡ false
  none-each p q f [] a = refl
  none-each p q f (x ∷ xs) a =
      let s = both (q x) (list_all q xs) a in
      rw (f x s.0, none-each p q f xs s.1) refl

  pub any-fewer : (p q : X → Bool) → ((x : X) → p x ≡ false → q x ≡ false) → (xs : List X) → list_any p xs ≡ false → list_any q xs ≡ false
  any-fewer p q f [] a = refl
  any-fewer p q f (x ∷ xs) a =
      rw (f x (either_left (p x) (list_any p xs) a), any-fewer p q f xs (either_right (p x) (list_any p xs) a)) refl

  pub any-more : (p q : X → Bool) → ((x : X) → p x ≡ true → q x ≡ true) → (xs : List X) → list_any p xs ≡ true → list_any q xs ≡ true
  any-more p q f [] a = absurd cc
  any-more p q f (x ∷ xs) a = go (p x) refl a (any-more p q f xs)
    where
      go : (b : Bool) → p x ≡ b → (b || list_any p xs) ≡ true → (list_any p xs ≡ true → list_any q xs ≡ true) → (q x || list_any q xs) ≡ true
      go true e h r = or_left (q x) (list_any q xs) (f x e)
      go false e h r = or_right (q x) (list_any q xs) (r h)

pub by_either : (b : Bool) {A : Type 0} → (b ≡ true → A) → (b ≡ false → A) → A
by_either true f g = f refl
by_either false f g = g refl

-- ---- entries

-- p || b, from a test that is not p or b
out_of : (p b : Bool) → (not p || b) ≡ true → not b ≡ true → p ≡ false
out_of true true h n = absurd cc
out_of true false h n = absurd cc
out_of false b h n = refl

pub into : (p b : Bool) → (p ≡ true → b ≡ true) → (not p || b) ≡ true
into true b f = f refl
into false b f = refl

pub out : (p b : Bool) → (not p || b) ≡ true → p ≡ true → b ≡ true
out true b h e = h
out false b h e = absurd cc

-- what others make is none of what is a number's own
pub none_picked : (pick : What → Bool) (n : ℕ) (more : List Entry) → are_own pick n more ≡ true → are_others n more ≡ true → any pick more ≡ false
none_picked pick n [] o a = refl
none_picked pick n (e ∷ more) o a =
    let s = both (not (pick e.what) || e.by == n) (are_own pick n more) o in
    let t = both (not (e.by == n)) (are_others n more) a in
    rw (out_of (pick e.what) (e.by == n) s.0 t.0, none_picked pick n more s.1 t.1) refl

pub own_if_none : (pick : What → Bool) (n : ℕ) (more : List Entry) → any pick more ≡ false → are_own pick n more ≡ true
own_if_none pick n [] a = refl
own_if_none pick n (e ∷ more) a =
    rw (either_left (pick e.what) (any pick more) a, own_if_none pick n more (either_right (pick e.what) (any pick more) a)) refl

pub only_others : (p : What → Bool) (n : ℕ) (more : List Entry) → are_others n more ≡ true → makes_only p n more ≡ true
only_others p n more h = all-each (λ (e : Entry). not (e.by == n)) (λ (e : Entry). not (e.by == n) || p e.what) (λ e k. or_left (not (e.by == n)) (p e.what) k) more h

pub differ_by : (b p : Bool) → not b ≡ true → (b && p) ≡ false
differ_by true p h = absurd cc
differ_by false p h = refl

-- entries that were made by another number
pub others : (n m : ℕ) → n ≢ m → (more : List Entry) → list_all (λ e. e.by == n) more ≡ true → are_others m more ≡ true
others n m d more h =
    all-each (λ (e : Entry). e.by == n) (λ (e : Entry). not (e.by == m))
    (λ e k. ap not (differ e.by m (λ z. d (sym (same_number e.by n k) ∙ z)))) more h

pub made : (by : ℕ) (ws : List What) → list_all (λ e. e.by == by) (made_by by ws) ≡ true
made by [] = refl
made by (w ∷ ws) = rw (same by, made by ws) refl
