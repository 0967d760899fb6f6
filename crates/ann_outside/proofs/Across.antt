-- What several crates above this one use.
use Rattle.std.specs.Prelude.{IfSome, count_by}
use Rattle.ann_outside.specs.Files.{Files, WhereTold}
use Rattle.std.proofs.Common.{ℕ, ◌≤◌, arith, ◌≡◌, refl, ◌∙◌, None, Option, Some, List, ◌++◌, take, sym, subst, Bool, true, false, cond, not, [], ◌∷◌}
use Rattle.ann_outside.specs.Causes.{Rose, Stays}
use Rattle.ann_outside.specs.Starts.{Starts}
use Rattle.std.specs.Io.KnownBytes.{Appends}
use Rattle.ann_key.proofs.Lists.{front_of_longer}
use Rattle.std.specs.List.{list_all}
use Rattle.std.proofs.lemmas.Bool.{and_parts}
use Rattle.std.proofs.lemmas.List.Sums.{sum_by-cons}
use Rattle.ann_key.proofs.Booleans.{false_is_true as apart}

pub told_refl : (P : Files → Files → Type 0) (a : Option Files) → ((x : Files) → P x x) → WhereTold a a P
told_refl P None h = tt
told_refl P (Some x) h = h x

pub where_then : (P Q R : Files → Files → Type 0) (a b c : Option Files) → ((x y z : Files) → P x y → Q y z → R x z) → WhereTold a b P → WhereTold b c Q → WhereTold a c R
where_then P Q R None None None f p q = tt
where_then P Q R None None (Some z) f p q = absurd q
where_then P Q R None (Some y) c f p q = absurd p
where_then P Q R (Some x) None c f p q = absurd p
where_then P Q R (Some x) (Some y) None f p q = absurd q
where_then P Q R (Some x) (Some y) (Some z) f p q = f x y z p q

pub where_so : (P R : Files → Files → Type 0) (a b : Option Files) → ((x y : Files) → P x y → R x y) → WhereTold a b P → WhereTold a b R
where_so P R None None f p = tt
where_so P R None (Some y) f p = absurd p
where_so P R (Some x) None f p = absurd p
where_so P R (Some x) (Some y) f p = f x y p

pub rose_on : (a b c : ℕ) → Rose a b → b ≤ c → Rose a c
rose_on a b c h k = omega (arith, h, k)

pub told_same : (P : Files → Type 0) (a b : Option Files) → b ≡ a → IfSome a P → WhereTold a b (λ x y. (y ≡ x) × P x)
told_same P None b e p = rw e tt
told_same P (Some x) b e p = rw e (refl, p)

pub stays_both : (a b c : Option Starts) → Stays a b → Stays b c → Stays a c
stays_both None None None h k = tt
stays_both None None (Some zs) h k = absurd k
stays_both None (Some ys) c h k = absurd h
stays_both (Some xs) None c h k = absurd h
stays_both (Some xs) (Some ys) None h k = absurd k
stays_both (Some xs) (Some ys) (Some zs) h k = k ∙ h

pub prefix_longer : (a c : Option (List ℕ)) (ys zs : List ℕ) → ((n : ℕ) × Appends a c (take n ys)) → (m : ℕ) × Appends a c (take m (ys ++ zs))
prefix_longer a c ys zs q =
    let front = front_of_longer q.0 ys zs in
    (front.0, subst (λ (l : List ℕ). Appends a c l) (sym front.1) q.1)

pub count_none : {X : Type 0} (p : X → Bool) (xs : List X) → list_all (λ x. not (p x)) xs ≡ true → count_by p xs ≡ 0
count_none p [] h = refl
count_none p (x ∷ xs) h =
    let q = and_parts (not (p x)) (list_all (λ y. not (p y)) xs) h in
    let no : p x ≡ false = turned (p x) q.0 in
    let rest : count_by p xs ≡ 0 = count_none p xs q.1 in
    sum_by-cons (λ y. cond (p y) 1 0) x xs ∙ rw (no, rest) refl
  where
    turned : (b : Bool) → not b ≡ true → b ≡ false
    turned true e = apart e
    turned false e = refl
