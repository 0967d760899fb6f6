-- How often things stand in lists.
use Rattle.std.proofs.Common.{◌≡◌, ℕ, List, [], ◌∷◌, ◌++◌, ◌+◌, ◌≤◌, refl, sym, ap, subst, ◌∙◌, Bool, true, false, length, ◌==◌, cond, Some, None, Option, arith}
use Rattle.std.specs.Prelude.{◌&&◌, ◌||◌, filter}
use Rattle.std.specs.List.{count_by, cons_option}
use Rattle.std.proofs.lemmas.List.Sums.{sum_by-cons, sum_by-append}
use Rattle.journal_model.specs.declared.entry.What.{What}
use Rattle.journal_model.specs.declared.entry.Entry.{Entry}
use Rattle.journal_model.specs.Journal.{any, each_of}
use Rattle.ann_key.proofs.Numbers.{same_number as same}
use Rattle.std.proofs.lemmas.Bool.{eqb-true as same_number, and_parts as both}
use Rattle.ann_key.proofs.Booleans.{left_false as either_left, right_false as either_right}

pub record IsSame {X : Type 0} (eq : X → X → Bool) : Type 0 where
  pub itself : (x : X) → eq x x ≡ true
  pub equal : (x y : X) → eq x y ≡ true → x ≡ y

abbrev pub same_nat : ℕ → ℕ → Bool
same_nat x k = x == k

pub nat_is_same : IsSame same_nat
nat_is_same = record { itself = same; equal = same_number }

abbrev pub Pair : Type 0
Pair = ℕ × ℕ

abbrev pub same_pair : Pair → Pair → Bool
same_pair x k = x.0 == k.0 && x.1 == k.1

pub pair_is_same : IsSame same_pair
pair_is_same = record {
  itself = λ x. rw (same x.0, same x.1) refl;
  equal = λ x y h. (
      let t = both (x.0 == y.0) (x.1 == y.1) h in
      let a : x.0 ≡ y.0 = same_number x.0 y.0 t.0 in
      let b : x.1 ≡ y.1 = same_number x.1 y.1 t.1 in
      pairs x.0 y.0 x.1 y.1 a b);
}
  where
    pairs : (a b c d : ℕ) → a ≡ b → c ≡ d → ◌≡◌ {A = Pair} (a, c) (b, d)
    pairs a b c d e f = ap (λ (x : ℕ). (x, c)) e ∙ ap (λ (x : ℕ). (b, x)) f

abbrev pub one : Bool → ℕ
one b = cond b 1 0

module _ {X : Type 0} (eq : X → X → Bool) where
  abbrev pub many : X → List X → ℕ
  many k xs = count_by (λ x. eq x k) xs

  pub many-cons : (k x : X) (xs : List X) → many k (x ∷ xs) ≡ one (eq x k) + many k xs
  many-cons k x xs = sum_by-cons (λ y. cond (eq y k) 1 0) x xs

  pub many-append : (k : X) (xs ys : List X) → many k (xs ++ ys) ≡ many k xs + many k ys
  many-append k xs ys = sum_by-append (λ y. cond (eq y k) 1 0) xs ys

  abbrev pub AtMost : List X → List X → Type 0
  AtMost xs ys = (k : X) → many k xs ≤ many k ys

  -- one of them, taken out
  take_one : IsSame eq → (k : X) (ys : List X) → 1 ≤ many k ys
      → (rest : List X) × (length ys ≡ length rest + 1) × ((z : X) → many z ys ≡ one (eq k z) + many z rest)
  take_one is k [] h = absurd (omega arith)
  take_one is k (y ∷ ys) h = go (eq y k) refl (many-cons k y ys) (take_one is k ys)
    where
      go : (b : Bool) → eq y k ≡ b → many k (y ∷ ys) ≡ one (eq y k) + many k ys
          → (1 ≤ many k ys → (rest : List X) × (length ys ≡ length rest + 1) × ((z : X) → many z ys ≡ one (eq k z) + many z rest))
          → (rest : List X) × (length (y ∷ ys) ≡ length rest + 1) × ((z : X) → many z (y ∷ ys) ≡ one (eq k z) + many z rest)
      go true e c r =
          let Y : y ≡ k = is.equal y k e in
          (ys, omega arith, λ z. many-cons z y ys ∙ ap (λ (x : X). one (eq x z) + many z ys) Y)
      go false e c r =
          let none : one (eq y k) ≡ 0 = ap one e in
          let s = r (omega (arith, h, c, none)) in
          let long : length ys ≡ length s.0 + 1 = s.1 in (
            y ∷ s.0,
            omega arith,
            λ z. (
                let a : many z (y ∷ ys) ≡ one (eq y z) + many z ys = many-cons z y ys in
                let b : many z (y ∷ s.0) ≡ one (eq y z) + many z s.0 = many-cons z y s.0 in
                let d : many z ys ≡ one (eq k z) + many z s.0 = s.2 z in
                omega (arith, a, b, d)),
          )

  -- a list whose things stand at least as often in another is no longer
  pub AtMost-length : IsSame eq → (xs ys : List X) → AtMost xs ys → length xs ≤ length ys
  AtMost-length is [] ys h = omega arith
  AtMost-length is (x ∷ xs) ys h =
      let a : many x (x ∷ xs) ≡ one (eq x x) + many x xs = many-cons x x xs in
      let b : one (eq x x) ≡ 1 = ap one (is.itself x) in
      let c : many x (x ∷ xs) ≤ many x ys = h x in
      let s = take_one is x ys (omega (arith, a, b, c)) in
      let long : length ys ≡ length s.0 + 1 = s.1 in
      let r : length xs ≤ length s.0 = AtMost-length is xs s.0 (λ z. (
      let d : many z (x ∷ xs) ≡ one (eq x z) + many z xs = many-cons z x xs in
      let e : many z ys ≡ one (eq x z) + many z s.0 = s.2 z in
      let f : many z (x ∷ xs) ≤ many z ys = h z in
      omega (arith, d, e, f))) in
      omega (arith, long, r)

  pub more_none : (xs ys zs : List X) → AtMost xs ys → AtMost (xs ++ []) (ys ++ zs)
  more_none xs ys zs h k =
      let a = many-append k xs [] in
      let b = many-append k ys zs in
      let c : many k xs ≤ many k ys = h k in
      omega (arith, a, b, c)

  pub more_one : IsSame eq → (xs ys zs : List X) (x : X) → AtMost xs ys → many x xs + 1 ≤ many x ys → AtMost (xs ++ x ∷ []) (ys ++ zs)
  more_one is xs ys zs x h room k = go (eq x k) refl
    where
      a : many k (xs ++ x ∷ []) ≡ many k xs + many k (x ∷ [])
      a = many-append k xs (x ∷ [])

      b : many k (ys ++ zs) ≡ many k ys + many k zs
      b = many-append k ys zs

      single : many k (x ∷ []) ≡ one (eq x k) + many k []
      single = many-cons k x []

      go : (b : Bool) → eq x k ≡ b → many k (xs ++ x ∷ []) ≤ many k (ys ++ zs)
      go true e =
          let here : many k xs + 1 ≤ many k ys = subst (λ (y : X). many y xs + 1 ≤ many y ys) (is.equal x k e) room in
          let i : one (eq x k) ≡ 1 = ap one e in
          omega (arith, a, b, single, i, here)
      go false e =
          let i : one (eq x k) ≡ 0 = ap one e in
          let c : many k xs ≤ many k ys = h k in
          omega (arith, a, b, single, i, c)

  -- ---- what the entries of a journal name

  abbrev pub holds : X → Option X → Bool
  holds k None = false
  holds k (Some x) = eq x k

  pub named_none : (f : What → Option X) (p : What → Bool) (k : X) → ((w : What) → p w ≡ holds k (f w))
      → (past : List Entry) → any p past ≡ false → many k (each_of f past) ≡ 0
  named_none f p k is [] h = refl
  named_none f p k is (e ∷ past) h =
      go (f e.what) (sym (is e.what) ∙ either_left (p e.what) (any p past) h) (named_none f p k is past (either_right (p e.what) (any p past) h))
    where
      go : (x : Option X) → holds k x ≡ false → many k (each_of f past) ≡ 0 → many k (cons_option x (each_of f past)) ≡ 0
      go None e r = r
      go (Some x) e r =
          let a = many-cons k x (each_of f past) in
          let b : one (eq x k) ≡ 0 = ap one e in
          omega (arith, a, b, r)

  pub named_some : (f : What → Option X) (p : What → Bool) (k : X) → ((w : What) → p w ≡ holds k (f w))
      → (past : List Entry) → any p past ≡ true → 1 ≤ many k (each_of f past)
  named_some f p k is [] h = absurd cc
  named_some f p k is (e ∷ past) h = go (f e.what) (p e.what) (is e.what) h (named_some f p k is past)
    where
      go : (x : Option X) (b : Bool) → b ≡ holds k x → (b || any p past) ≡ true → (any p past ≡ true → 1 ≤ many k (each_of f past))
          → 1 ≤ many k (cons_option x (each_of f past))
      go None true i h r = absurd cc
      go None false i h r = r h
      go (Some x) true i h r =
          let a = many-cons k x (each_of f past) in
          let b : one (eq x k) ≡ 1 = ap one (sym i) in
          omega (arith, a, b)
      go (Some x) false i h r =
          let a = many-cons k x (each_of f past) in
          let s : 1 ≤ many k (each_of f past) = r h in
          omega (arith, a, s)

  pub named_count : (f : What → Option X) (p : What → Bool) (k : X) → ((w : What) → p w ≡ holds k (f w))
      → (past : List Entry) → count_by (λ e. p e.what) past ≡ many k (each_of f past)
  named_count f p k is [] = refl
  named_count f p k is (e ∷ past) = go (f e.what) (is e.what) (sum_by-cons (λ (d : Entry). cond (p d.what) 1 0) e past) (named_count f p k is past)
    where
      go : (x : Option X) → p e.what ≡ holds k x → count_by (λ d. p d.what) (e ∷ past) ≡ one (p e.what) + count_by (λ d. p d.what) past
          → count_by (λ d. p d.what) past ≡ many k (each_of f past) → count_by (λ d. p d.what) (e ∷ past) ≡ many k (cons_option x (each_of f past))
      go None i c r =
          let b : one (p e.what) ≡ 0 = ap one i in
          omega (arith, b, c, r)
      go (Some x) i c r =
          let a = many-cons k x (each_of f past) in
          let b : one (p e.what) ≡ one (eq x k) = ap one i in
          omega (arith, a, b, c, r)

  abbrev pub is_there : {Y : Type 0} → Option Y → Bool
  is_there None = false
  is_there (Some y) = true

  pub named_length : {Y : Type 0} (f : What → Option X) (g : What → Option Y) (k : X) → ((w : What) → is_there (g w) ≡ holds k (f w))
      → (past : List Entry) → length (each_of g past) ≡ many k (each_of f past)
  named_length f g k is [] = refl
  named_length {Y = Y} f g k is (e ∷ past) = go (f e.what) (g e.what) (is e.what) (named_length f g k is past)
    where
      go : (x : Option X) (y : Option Y) → is_there y ≡ holds k x → length (each_of g past) ≡ many k (each_of f past)
          → length (cons_option y (each_of g past)) ≡ many k (cons_option x (each_of f past))
      go None None i r = r
      go None (Some y) i r = absurd cc
      go (Some x) None i r =
          let a = many-cons k x (each_of f past) in
          let b : one (eq x k) ≡ 0 = ap one (sym i) in
          omega (arith, a, b, r)
      go (Some x) (Some y) i r =
          let a = many-cons k x (each_of f past) in
          let b : one (eq x k) ≡ 1 = ap one (sym i) in
          omega (arith, a, b, r)

-- ---- filters of numbers

pub filter_at_most : (f : ℕ → Bool) (j : ℕ) (ks : List ℕ) → many same_nat j (filter f ks) ≤ many same_nat j ks
filter_at_most f j [] = omega arith
filter_at_most f j (k ∷ ks) = go (f k) (filter_at_most f j ks)
  where
    a : many same_nat j (k ∷ ks) ≡ one (k == j) + many same_nat j ks
    a = many-cons same_nat j k ks

    go : (b : Bool) → many same_nat j (filter f ks) ≤ many same_nat j ks → many same_nat j (cond b (k ∷ filter f ks) (filter f ks)) ≤ many same_nat j (k ∷ ks)
    go true r = let c = many-cons same_nat j k (filter f ks) in omega (arith, a, c, r)
    go false r = omega (arith, a, r)

pub filter_drops : (f : ℕ → Bool) (j : ℕ) (ks : List ℕ) → f j ≡ false → many same_nat j (filter f ks) ≡ 0
filter_drops f j [] h = refl
filter_drops f j (k ∷ ks) h = go (f k) refl (filter_drops f j ks h)
  where
    go : (b : Bool) → f k ≡ b → many same_nat j (filter f ks) ≡ 0 → many same_nat j (cond b (k ∷ filter f ks) (filter f ks)) ≡ 0
    go false e r = r
    go true e r =
        let c = many-cons same_nat j k (filter f ks) in
        let i : one (k == j) ≡ 0 = ap one (differs (k == j) refl) in
        omega (arith, c, i, r)
      where
        differs : (b : Bool) → (k == j) ≡ b → (k == j) ≡ false
        differs false d = d
        differs true d = let s : f j ≡ true = subst (λ (x : ℕ). f x ≡ true) (same_number k j d) e in absurd (cc (s, h))
