-- The parts that a layout asks for where part was missing, or where it is the plain one.
use Rattle.std.proofs.Common.{◌≡◌, ◌∙◌, ◌⊎◌, inl, inr, ℕ, zero, suc, ◌+◌, ◌<◌, ◌≤◌, ◌==◌, Bool, true, false, List, [], ◌∷◌, length, drop, refl, sym, ap, arith}
use Rattle.std.specs.Prelude.{cond, nat_lt, nat_le, Option, Some, None, is_some, map, unwrap_or, count_by}
use Rattle.std.specs.List.{list_all, range_with_len}
use Rattle.std.proofs.lemmas.Bool.{and_parts, eqb-true, ltb-true, leb-true}
use Rattle.std.proofs.lemmas.List.Sums.{sum_by-cons}
use Rattle.ann_key.specs.Keys.{Parts}
use Rattle.task_text.specs.Layouts.Layouts.{Part, count_of, from_of, to_of, is_held, held_of}
use Rattle.task_model.specs.Layouts.{parts_of_layout}
use Rattle.task_model.specs.Gets.{parts_wanted, wanted, item}
use Rattle.ann_key.proofs.Booleans.{false_is_true as apart}

-- ---- nothing is held of nothing

none_held : (size chunk from count : ℕ) → count_by (is_held size chunk 0) (range_with_len from count) ≡ 0
none_held size chunk from zero = refl
none_held size chunk from (suc count) =
    let rest : count_by (is_held size chunk 0) (range_with_len (from + 1) count) ≡ 0 = none_held size chunk (from + 1) count in
    sum_by-cons (λ (n : ℕ). cond (is_held size chunk 0 n) 1 0) from (range_with_len (from + 1) count) ∙ ap (λ (b : Bool). cond b 1 0 + count_by (is_held size chunk 0) (range_with_len (from + 1) count)) (not_held (is_held size chunk 0 from) refl) ∙ rw rest refl
  where
    not_held : (b : Bool) → is_held size chunk 0 from ≡ b → is_held size chunk 0 from ≡ false
    not_held false e = e
    not_held true e =
        let parts = and_parts (nat_lt (from_of chunk from) (to_of size chunk from)) (nat_le (to_of size chunk from) 0) e in
        let above : from_of chunk from < to_of size chunk from = ltb-true (from_of chunk from) (to_of size chunk from) parts.0 in
        let below : to_of size chunk from ≤ 0 = leb-true (to_of size chunk from) 0 parts.1 in
        absurd (omega arith)

whole_wanted : (key : Parts) (chunk : ℕ) → parts_wanted key chunk 0 ≡ parts_of_layout key chunk
whole_wanted key chunk = by_test (chunk == 0) refl
  where
    by_test : (b : Bool) → (chunk == 0) ≡ b → cond b (parts_of_layout key 0) (drop (held_of (unwrap_or key.size 0) chunk 0) (parts_of_layout key chunk)) ≡ parts_of_layout key chunk
    by_test true e = ap (parts_of_layout key) (sym (eqb-true chunk 0 e))
    by_test false e = ap (λ (k : ℕ). drop k (parts_of_layout key chunk)) (none_held (unwrap_or key.size 0) chunk 1 (count_of (unwrap_or key.size 0) chunk))

-- ---- the layout's parts

-- the layout asks for all of its parts, unless it isn't there
abbrev AsksAll : Parts → Option (List Part) → ℕ → Type 0
AsksAll key parts chunk = (parts ≡ None) ⊎ (parts ≡ Some (parts_of_layout key chunk))

-- the plain layout, or one before which no bytes of part were found
abbrev pub Afresh : ℕ → List ℕ → Type 0
Afresh chunk lengths = ((chunk == 0) ≡ true) ⊎ (list_all (λ n. n == 0) lengths ≡ true)

afresh_later : (chunk n : ℕ) (later : List ℕ) → Afresh chunk (n ∷ later) → Afresh chunk later
afresh_later chunk n later (inl e) = inl e
afresh_later chunk n later (inr h) = inr (and_parts (n == 0) (list_all (λ n. n == 0) later) h).1

pub asks_all : (key : Parts) (sizes lengths : List ℕ) (m : ℕ) → Afresh (unwrap_or (item m sizes) 0) lengths → AsksAll key (item m (wanted key sizes lengths)) (unwrap_or (item m sizes) 0)
asks_all key [] lengths m a = inl refl
asks_all key (chunk ∷ sizes) [] m a = by_test (chunk == 0) refl m a (λ k b. asks_all key sizes [] k b)
  where
    by_test : (b : Bool) → (chunk == 0) ≡ b → (m : ℕ) → Afresh (unwrap_or (item m (chunk ∷ sizes)) 0) [] → ((k : ℕ) → Afresh (unwrap_or (item k sizes) 0) [] → AsksAll key (item k (wanted key sizes [])) (unwrap_or (item k sizes) 0))
        → AsksAll key (item m (cond b (parts_wanted key 0 0 ∷ wanted key sizes []) [])) (unwrap_or (item m (chunk ∷ sizes)) 0)
    by_test true e zero a more = inr (ap (λ (k : ℕ). Some (parts_of_layout key k)) (sym (eqb-true chunk 0 e)))
    by_test true e (suc k) a more = more k a
    by_test false e k a more = inl refl
asks_all key (chunk ∷ sizes) (n ∷ later) m a = by_test (chunk == 0) refl m a (λ k b. asks_all key sizes (n ∷ later) k b) (λ k b. asks_all key sizes later k b)
  where
    by_test : (b : Bool) → (chunk == 0) ≡ b → (m : ℕ) → Afresh (unwrap_or (item m (chunk ∷ sizes)) 0) (n ∷ later)
        → ((k : ℕ) → Afresh (unwrap_or (item k sizes) 0) (n ∷ later) → AsksAll key (item k (wanted key sizes (n ∷ later))) (unwrap_or (item k sizes) 0))
        → ((k : ℕ) → Afresh (unwrap_or (item k sizes) 0) later → AsksAll key (item k (wanted key sizes later)) (unwrap_or (item k sizes) 0))
        → AsksAll key (item m (cond b (parts_wanted key 0 0 ∷ wanted key sizes (n ∷ later)) (parts_wanted key chunk n ∷ wanted key sizes later))) (unwrap_or (item m (chunk ∷ sizes)) 0)
    by_test true e zero a same less = inr (ap (λ (k : ℕ). Some (parts_of_layout key k)) (sym (eqb-true chunk 0 e)))
    by_test true e (suc k) a same less = same k a
    by_test false e zero (inl t) same less = apart (sym e ∙ t)
    by_test false e zero (inr z) same less =
        let none : n ≡ 0 = eqb-true n 0 (and_parts (n == 0) (list_all (λ n. n == 0) later) z).0 in
        inr (ap (λ (k : ℕ). Some (parts_wanted key chunk k)) none ∙ ap (λ (ps : List Part). Some ps) (whole_wanted key chunk))
    by_test false e (suc k) a same less = less k (afresh_later (unwrap_or (item k sizes) 0) n later a)

-- ---- the layout is there

-- the length of part is known of each chunk layout so far; the plain layout needs none
abbrev pub HasLength : ℕ → ℕ → List ℕ → Type 0
HasLength chunk m lengths = ((chunk == 0) ≡ true) ⊎ (m < length lengths)

nothing_below : {A : Type 0} (m : ℕ) → m < length {A = ℕ} [] → A
nothing_below m h = absurd (omega arith)

pub is_there : (key : Parts) (sizes lengths : List ℕ) (m chunk : ℕ) → m ≤ length (wanted key sizes lengths) → item m sizes ≡ Some chunk → HasLength chunk m lengths → is_some (item m (wanted key sizes lengths)) ≡ true
is_there key [] lengths m chunk h i l = let e : None ≡ Some chunk = i in absurd cc
is_there key (c ∷ sizes) [] m chunk h i l = by_test (c == 0) refl m h i l (λ k g j b. is_there key sizes [] k chunk g j b)
  where
    by_test : (b : Bool) → (c == 0) ≡ b → (m : ℕ) → m ≤ length (cond b (parts_wanted key 0 0 ∷ wanted key sizes []) []) → item m (c ∷ sizes) ≡ Some chunk → HasLength chunk m []
        → ((k : ℕ) → k ≤ length (wanted key sizes []) → item k sizes ≡ Some chunk → HasLength chunk k [] → is_some (item k (wanted key sizes [])) ≡ true)
        → is_some (item m (cond b (parts_wanted key 0 0 ∷ wanted key sizes []) [])) ≡ true
    by_test true e zero h i l more = refl
    by_test true e (suc k) h i (inl p) more = more k (omega arith) i (inl p)
    by_test true e (suc k) h i (inr p) more = nothing_below (suc k) p
    by_test false e zero h i (inl p) more =
        let same : Some c ≡ Some chunk = i in
        let is : c ≡ chunk = cc in
        apart (sym e ∙ ap (λ (k : ℕ). k == 0) is ∙ p)
    by_test false e zero h i (inr p) more = nothing_below zero p
    by_test false e (suc k) h i l more = absurd (omega arith)
is_there key (c ∷ sizes) (n ∷ later) m chunk h i l = by_test (c == 0) refl m h i l (λ k g j b. is_there key sizes (n ∷ later) k chunk g j b) (λ k g j b. is_there key sizes later k chunk g j b)
  where
    by_test : (b : Bool) → (c == 0) ≡ b → (m : ℕ) → m ≤ length (cond b (parts_wanted key 0 0 ∷ wanted key sizes (n ∷ later)) (parts_wanted key c n ∷ wanted key sizes later)) → item m (c ∷ sizes) ≡ Some chunk
        → HasLength chunk m (n ∷ later)
        → ((k : ℕ) → k ≤ length (wanted key sizes (n ∷ later)) → item k sizes ≡ Some chunk → HasLength chunk k (n ∷ later) → is_some (item k (wanted key sizes (n ∷ later))) ≡ true)
        → ((k : ℕ) → k ≤ length (wanted key sizes later) → item k sizes ≡ Some chunk → HasLength chunk k later → is_some (item k (wanted key sizes later)) ≡ true)
        → is_some (item m (cond b (parts_wanted key 0 0 ∷ wanted key sizes (n ∷ later)) (parts_wanted key c n ∷ wanted key sizes later))) ≡ true
    by_test true e zero h i l same less = refl
    by_test true e (suc k) h i (inl p) same less = same k (omega arith) i (inl p)
    by_test true e (suc k) h i (inr p) same less = same k (omega arith) i (inr (omega arith))
    by_test false e zero h i l same less = refl
    by_test false e (suc k) h i (inl p) same less = less k (omega arith) i (inl p)
    by_test false e (suc k) h i (inr p) same less = less k (omega arith) i (inr (omega arith))

pub wanted_few : (key : Parts) (sizes lengths : List ℕ) → length (wanted key sizes lengths) ≤ length sizes
wanted_few key [] lengths = omega arith
wanted_few key (c ∷ sizes) [] = by_test (c == 0) (wanted_few key sizes [])
  where
    by_test : (b : Bool) → length (wanted key sizes []) ≤ length sizes → length (cond b (parts_wanted key 0 0 ∷ wanted key sizes []) []) ≤ length (c ∷ sizes)
    by_test true h = omega arith
    by_test false h = omega arith
wanted_few key (c ∷ sizes) (n ∷ later) = by_test (c == 0) (wanted_few key sizes (n ∷ later)) (wanted_few key sizes later)
  where
    by_test : (b : Bool) → length (wanted key sizes (n ∷ later)) ≤ length sizes → length (wanted key sizes later) ≤ length sizes
        → length (cond b (parts_wanted key 0 0 ∷ wanted key sizes (n ∷ later)) (parts_wanted key c n ∷ wanted key sizes later)) ≤ length (c ∷ sizes)
    by_test true h k = omega arith
    by_test false h k = omega arith

pub item_there : {X : Type 0} (m : ℕ) (xs : List X) → m < length xs → (x : X) × (item m xs ≡ Some x)
item_there m [] h = absurd (omega arith)
item_there zero (x ∷ xs) h = (x, refl)
item_there (suc k) (x ∷ xs) h = item_there k xs (omega arith)

pub item-map : {X Y : Type 0} (f : X → Y) (m : ℕ) (xs : List X) (x : X) → item m xs ≡ Some x → item m (map f xs) ≡ Some (f x)
item-map f m [] x e = absurd (let k : None ≡ Some x = e in cc)
item-map f zero (y ∷ xs) x e = let k : Some y ≡ Some x = e in let is : y ≡ x = cc in ap (λ z. Some (f z)) is
item-map f (suc k) (y ∷ xs) x e = item-map f k xs x e
