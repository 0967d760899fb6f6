-- Lists.
use Rattle.std.proofs.Common.{◌≡◌, List, [], ◌∷◌, refl, ◌+◌, ◌++◌, Bool, ℕ, true, false, Option, Some, None, sym, ◌∙◌, ap, append_assoc, append-nil, length, arith, subst, cond, ◌<◌, ◌≤◌, take, ⊎_elim, suc, map, bytes_eq, zero, ◌==◌, rules, not, ◌⊎◌, inl, inr}
use Rattle.std.specs.Prelude.{◌||◌, filter, find, slice_get, option_map, nat_lt}
use Rattle.std.specs.List.{list_all, list_any, concat, cons_option, last_or, range_with_len, position_or_len}
use Rattle.std.proofs.lemmas.Bool.{and_parts, cases_lt, false≢true, and_from}
use Rattle.std.proofs.lemmas.List.Folds.{list_all-append}
use Rattle.std.specs.Io.KnownBytes.{Appends}
use Rattle.std.proofs.lemmas.List.{take-append-le, take_all}
use Rattle.std.proofs.Math.Seq.{take-append_seam, append_snoc}
use Rattle.std.proofs.lemmas.Slice.Eq.{bytes_eq-Decides}
use Rattle.ann_key.proofs.Booleans.{neither_is, not_either, one_of_two, or_left, or_right}

pub all_still : {X : Type 0} (p q : X → Bool) → ((x : X) → p x ≡ true → q x ≡ true) → (xs : List X) → list_all p xs ≡ true → list_all q xs ≡ true
all_still p q h [] k = refl
all_still p q h (x ∷ xs) k =
    let parts = and_parts (p x) (list_all p xs) k in
    let first : q x ≡ true = h x parts.0 in
    let rest : list_all q xs ≡ true = all_still p q h xs parts.1 in
    rw (first, rest) refl

pub all_more : {X : Type 0} (p : X → Bool) (xs ys : List X) → list_all p xs ≡ true → list_all p ys ≡ true → list_all p (xs ++ ys) ≡ true
all_more p xs ys a b = rw (list_all-append p xs ys) (rw a b)

pub any_same : {X : Type 0} (p q : X → Bool) → ((x : X) → p x ≡ q x) → (xs : List X) → list_any p xs ≡ list_any q xs
any_same p q e [] = refl
any_same p q e (x ∷ xs) = rw (e x, any_same p q e xs) refl

pub any_some : (q : ℕ → Bool) (xs : List ℕ) → list_any q xs ≡ true → (x : ℕ) × (q x ≡ true)
any_some q [] h = absurd cc
any_some q (x ∷ xs) h = go (q x) refl h (any_some q xs)
  where
    go : (b : Bool) → q x ≡ b → (b || list_any q xs) ≡ true → (list_any q xs ≡ true → (y : ℕ) × (q y ≡ true)) → (y : ℕ) × (q y ≡ true)
    go true e h r = (x, e)
    go false e h r = r h

pub appends_nothing : (t : Option (List ℕ)) → Appends t t []
appends_nothing None = tt
appends_nothing (Some x) = sym (append-nil x)

pub concat-snoc : (pieces : List (List ℕ)) (piece : List ℕ) → concat (pieces ++ piece ∷ []) ≡ concat pieces ++ piece
concat-snoc [] piece = append-nil piece
concat-snoc (first ∷ more) piece = ap (λ l. first ++ l) (concat-snoc more piece) ∙ sym (append_assoc first (concat more) piece)

pub cons_append : {A : Type 0} (x : Option A) (ys zs : List A) → cons_option x (ys ++ zs) ≡ cons_option x ys ++ zs
cons_append None ys zs = refl
cons_append (Some a) ys zs = refl

pub cons_option-append : {X : Type 0} (o : Option X) (xs ys : List X) → cons_option o xs ++ ys ≡ cons_option o (xs ++ ys)
cons_option-append None xs ys = refl
cons_option-append (Some x) xs ys = refl

pub no_items : {X : Type 0} (xs : List X) → length xs ≡ 0 → xs ≡ []
no_items [] e = refl
no_items (x ∷ xs) e = absurd (omega (arith, e))

pub filter_alike : (p q : ℕ → Bool) → ((j : ℕ) → p j ≡ q j) → (xs : List ℕ) → filter p xs ≡ filter q xs
filter_alike p q e [] = refl
filter_alike p q e (x ∷ xs) = rw (e x, filter_alike p q e xs) refl

pub found_so : {X : Type 0} (p : X → Bool) (xs : List X) (x : X) → find p xs ≡ Some x → p x ≡ true
found_so p [] x h = absurd cc
found_so p (y ∷ ys) x h = go (p y) refl h (found_so p ys x)
  where
    go : (b : Bool) → p y ≡ b → cond b (Some y) (find p ys) ≡ Some x → (find p ys ≡ Some x → p x ≡ true) → p x ≡ true
    go true e h r = (let eq : y ≡ x = cc in subst (λ z. p z ≡ true) eq e)
    go false e h r = r h

pub front_of_longer : (n : ℕ) (xs ys : List ℕ) → (m : ℕ) × (take m (xs ++ ys) ≡ take n xs)
front_of_longer n xs ys =
    ⊎_elim (λ (past : length xs < n). (length xs, take-append_seam xs ys ∙ sym (take_all n xs (omega arith))))
    (λ (within : n ≤ length xs). (n, take-append-le n xs ys within)) (cases_lt (length xs) n)

pub get_after : {X : Type 0} (xs : List X) (x : X) (ys : List X) → slice_get (xs ++ x ∷ ys) (length xs) ≡ Some x
get_after [] x ys = refl
get_after (z ∷ xs) x ys = get_after xs x ys

pub equal_bytes : (a b : List ℕ) → bytes_eq a b ≡ true → a ≡ b
equal_bytes a b e = (bytes_eq-Decides a b).0 e

pub last_or-push : {X : Type 0} (o : Option X) (xs : List X) (x : X) → last_or o (xs ++ x ∷ []) ≡ Some x
last_or-push o [] x = refl
last_or-push o (y ∷ xs) x = last_or-push (Some y) xs x

pub last_or-append : {X : Type 0} (d : Option X) (xs ys : List X) → last_or d (xs ++ ys) ≡ last_or (last_or d xs) ys
last_or-append d [] ys = refl
last_or-append d (x ∷ xs) ys = last_or-append (Some x) xs ys

pub length-map : {X Y : Type 0} (f : X → Y) (xs : List X) → length (map f xs) ≡ length xs
length-map f [] = refl
length-map f (x ∷ xs) = ap suc (length-map f xs)

pub map_nil : (c : Option (List ℕ)) → option_map (λ held. held ++ []) c ≡ c
map_nil None = refl
map_nil (Some held) = ap Some (append-nil held)

pub mapped : {X Y Z : Type 0} (f : Y → Z) (g : X → Y) (xs : List X) → map f (map g xs) ≡ map (λ x. f (g x)) xs
mapped f g [] = refl
mapped f g (x ∷ xs) = ap (λ zs. f (g x) ∷ zs) (mapped f g xs)

pub nil_back : {X : Type 0} (xs ys : List X) → xs ++ ys ≡ [] → ys ≡ []
nil_back [] ys e = e
nil_back (x ∷ xs) ys e = absurd cc

pub nil_front : {X : Type 0} (xs ys : List X) → xs ++ ys ≡ [] → xs ≡ []
nil_front [] ys h = refl
nil_front (x ∷ xs) ys h = absurd cc

pub option_twice : (a : Option (List ℕ)) (xs ys : List ℕ) → option_map (λ l. l ++ ys) (option_map (λ l. l ++ xs) a) ≡ option_map (λ l. l ++ (xs ++ ys)) a
option_twice None xs ys = refl
option_twice (Some l) xs ys = ap Some (append_assoc l xs ys)

pub other_name : (a b : List ℕ) → (a ≡ b → ⊥) → bytes_eq a b ≡ false
other_name a b h = by_test (bytes_eq a b) refl
  where
    by_test : (t : Bool) → bytes_eq a b ≡ t → bytes_eq a b ≡ false
    by_test false e = e
    by_test true e = absurd (h ((bytes_eq-Decides a b).0 e))

pub same_name : (key : List ℕ) → bytes_eq key key ≡ true
same_name key = (bytes_eq-Decides key key).1 refl

pub range_next : (a n : ℕ) → range_with_len a (suc n) ≡ range_with_len a n ++ (a + n) ∷ []
range_next a zero = let e : a ≡ a + 0 = omega arith in ap (λ (k : ℕ). k ∷ []) e
range_next a (suc n) =
    let e : a + 1 + n ≡ a + suc n = omega arith in
    ap (λ (ks : List ℕ). a ∷ ks) (range_next (a + 1) n ∙ ap (λ (k : ℕ). range_with_len (a + 1) n ++ k ∷ []) e)

pub filled : (bytes : List ℕ) → (length bytes == 0) ≡ false → nat_lt 0 (length bytes) ≡ true
filled [] h = absurd (false≢true (sym h))
filled (b ∷ bs) h = search rules

pub weaken : {X : Type 0} (p q : X → Bool) (xs : List X) → ((x : X) → p x ≡ true → q x ≡ true) → list_all p xs ≡ true → list_all q xs ≡ true
weaken p q [] f h = refl
weaken p q (x ∷ xs) f h =
    let parts = and_parts (p x) (list_all p xs) h in
    let one : q x ≡ true = f x parts.0 in
    let rest : list_all q xs ≡ true = weaken p q xs f parts.1 in
    rw (one, rest) refl

-- the next element moves from the rest to what was passed
pub next_passed : {X : Type 0} (passed : List X) (x : X) (all rest next : List X) → all ≡ passed ++ rest → rest ≡ x ∷ next → all ≡ (passed ++ x ∷ []) ++ next
next_passed passed x all rest next whole step = whole ∙ ap (λ r. passed ++ r) step ∙ sym (append_snoc passed x next)

-- nothing is left, so all was passed
pub all_passed : {X : Type 0} (passed all rest : List X) → all ≡ passed ++ rest → length rest ≡ 0 → passed ≡ all
all_passed passed all [] whole none = sym (whole ∙ append-nil passed)
all_passed passed all (x ∷ rest) whole none = absurd (omega arith)

pub each_fails : {X : Type 0} (p : X → Bool) (xs : List X) → not (list_any p xs) ≡ true → list_all (λ x. not (p x)) xs ≡ true
each_fails p [] h = refl
each_fails p (x ∷ xs) h =
    let parts = neither_is (p x) (list_any p xs) h in
    and_from (not (p x)) (list_all (λ x. not (p x)) xs) parts.0 (each_fails p xs parts.1)

pub none_passes : {X : Type 0} (p : X → Bool) (xs : List X) → list_all (λ x. not (p x)) xs ≡ true → not (list_any p xs) ≡ true
none_passes p [] h = refl
none_passes p (x ∷ xs) h =
    let parts = and_parts (not (p x)) (list_all (λ x. not (p x)) xs) h in
    not_either (p x) (list_any p xs) parts.0 (none_passes p xs parts.1)

-- no place passes
pub none_found : {X : Type 0} (p : X → Bool) (xs : List X) → position_or_len p xs ≡ length xs → list_any p xs ≡ false
none_found p [] h = refl
none_found p (x ∷ xs) h = go (p x) refl h (none_found p xs)
  where
    go : (b : Bool) → p x ≡ b → cond (not b) (1 + position_or_len p xs) 0 ≡ suc (length xs)
        → (position_or_len p xs ≡ length xs → list_any p xs ≡ false) → list_any p (x ∷ xs) ≡ false
    go true e h rest = absurd (let bad : 0 ≡ suc (length xs) = h in omega arith)
    go false e h rest = rw e (rest (let same : 1 + position_or_len p xs ≡ suc (length xs) = h in omega arith))

pub neither_passes : {X : Type 0} (p q : X → Bool) (xs : List X) → not (list_any p xs) ≡ true → not (list_any q xs) ≡ true → list_all (λ x. not (p x || q x)) xs ≡ true
neither_passes p q [] h k = refl
neither_passes p q (x ∷ xs) h k =
    let first = neither_is (p x) (list_any p xs) h in
    let second = neither_is (q x) (list_any q xs) k in
    one_of_two (p x) (q x) (list_all (λ x. not (p x || q x)) xs) first.0 second.0 (neither_passes p q xs first.1 second.1)

pub first_fails : {X : Type 0} (p q : X → Bool) (xs : List X) → list_all (λ x. not (p x || q x)) xs ≡ true → not (list_any p xs) ≡ true
first_fails p q [] h = refl
first_fails p q (x ∷ xs) h =
    let parts = and_parts (not (p x || q x)) (list_all (λ x. not (p x || q x)) xs) h in
    not_either (p x) (list_any p xs) (neither_is (p x) (q x) parts.0).0 (first_fails p q xs parts.1)

pub second_fails : {X : Type 0} (p q : X → Bool) (xs : List X) → list_all (λ x. not (p x || q x)) xs ≡ true → not (list_any q xs) ≡ true
second_fails p q [] h = refl
second_fails p q (x ∷ xs) h =
    let parts = and_parts (not (p x || q x)) (list_all (λ x. not (p x || q x)) xs) h in
    not_either (q x) (list_any q xs) (neither_is (p x) (q x) parts.0).1 (second_fails p q xs parts.1)

pub not_nil : {X : Type 0} (x : X) (xs : List X) → x ∷ xs ≡ [] → ⊥
not_nil x xs e = cc

pub slice_get-left : {X : Type 0} (xs ys : List X) (at : ℕ) → at < length xs → slice_get (xs ++ ys) at ≡ slice_get xs at
slice_get-left [] ys at h = absurd (let bad : ⊥ = omega (arith, h) in bad)
slice_get-left (x ∷ xs) ys zero h = refl
slice_get-left (x ∷ xs) ys (suc at) h = slice_get-left xs ys at (omega (arith, h))

-- a number of the range passes
pub any_within : (p : ℕ → Bool) (a n u : ℕ) → a ≤ u → u < a + n → p u ≡ true → list_any p (range_with_len a n) ≡ true
any_within p a zero u low high h = absurd (omega arith)
any_within p a (suc n) u low high h = go (either a u low) (λ (more : a + 1 ≤ u). any_within p (a + 1) n u more (omega arith) h)
  where
    either : (a u : ℕ) → a ≤ u → (a ≡ u) ⊎ (a + 1 ≤ u)
    either a u low = grind arith

    go : (a ≡ u) ⊎ (a + 1 ≤ u) → (a + 1 ≤ u → list_any p (range_with_len (a + 1) n) ≡ true) → (p a || list_any p (range_with_len (a + 1) n)) ≡ true
    go (inl same) rest = or_left (p a) (list_any p (range_with_len (a + 1) n)) (ap p same ∙ h)
    go (inr more) rest = or_right (p a) (list_any p (range_with_len (a + 1) n)) (rest more)
