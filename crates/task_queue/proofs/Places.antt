-- A place of a list after a write, and what stays of the busy ones.
use Rattle.std.proofs.Common.{◌≡◌, ◌∙◌, cond, ℕ, suc, ◌+◌, ◌<◌, ◌≤◌, ◌⊎◌, List, [], ◌∷◌, ◌++◌, refl, sym, ap, subst, Bool, true, false, not, length, get_or, set, arith, inl, inr, get_or-set_other, get_or-set_same}
use Rattle.std.specs.Prelude.{◌==◌, ◌||◌, filter, count_by}
use Rattle.std.specs.List.{list_any}
use Rattle.std.proofs.lemmas.Bool.{cases_eq, cases_lt, eqb-true, eqb-false, or_cases, or_left, or_right}
use Rattle.std.proofs.lemmas.List.{set_past}
use Rattle.std.proofs.lemmas.List.Folds.{list_any-append}
use Rattle.std.proofs.lemmas.List.Sums.{sum_by-set}
use Rattle.task_queue.specs.Groups.{is_set}
use Rattle.task_queue.specs.Queues.{is_among}

-- ---- after a write

-- it is what was written, or what it was
pub at_set : {X : Type 0} (P : X → Type 0) (xs : List X) (n t : ℕ) (x d : X) → (t ≡ n → n < length xs → P x) → ((t ≡ n → length xs ≤ n) → P (get_or xs t d)) → P (get_or (set xs n x) t d)
at_set {X} P xs n t x d here other = go (cases_eq t n) (cases_lt n (length xs))
  where
    go : (t ≡ n) ⊎ (t ≡ n → ⊥) → (n < length xs) ⊎ (length xs ≤ n) → P (get_or (set xs n x) t d)
    go (inl e) (inl within) = subst P (sym (ap (λ (k : ℕ). get_or (set xs n x) k d) e ∙ get_or-set_same xs n x d within)) (here e within)
    go (inl e) (inr past) = subst P (sym (ap (λ (l : List X). get_or l t d) (set_past xs n x past))) (other (λ same. past))
    go (inr apart) w = subst P (sym (get_or-set_other xs n t x d apart)) (other (λ same. absurd (apart same)))

pub set_here : (flags : List Bool) (n : ℕ) (b : Bool) → n < length flags → is_set (set flags n b) n ≡ b
set_here flags n b within = get_or-set_same flags n b false within

-- a flag stays up where another one is taken down
pub unmarked : (flags : List Bool) (n t : ℕ) → is_set flags t ≡ true → (t ≡ n) ⊎ (is_set (set flags n false) t ≡ true)
unmarked flags n t h = go (cases_eq t n)
  where
    go : (t ≡ n) ⊎ (t ≡ n → ⊥) → (t ≡ n) ⊎ (is_set (set flags n false) t ≡ true)
    go (inl e) = inl e
    go (inr apart) = inr (get_or-set_other flags n t false false apart ∙ h)

pub unmarked_was : (flags : List Bool) (n t : ℕ) → is_set (set flags n false) t ≡ true → is_set flags t ≡ true
unmarked_was flags n t =
    at_set (λ (b : Bool). b ≡ true → is_set flags t ≡ true) flags n t false false (λ e within h. absurd (let bad : false ≡ true = h in cc)) (λ other h. h)

pub unmarked_other : (flags : List Bool) (n t : ℕ) → n < length flags → is_set (set flags n false) t ≡ true → t ≡ n → ⊥
unmarked_other flags n t within h e =
    let here : is_set (set flags n false) t ≡ false = ap (is_set (set flags n false)) e ∙ set_here flags n false within in
    let bad : false ≡ true = sym here ∙ h in
    cc

pub marked : (flags : List Bool) (n t : ℕ) → is_set flags t ≡ true → is_set (set flags n true) t ≡ true
marked flags n t h = at_set (λ (b : Bool). b ≡ true) flags n t true false (λ e within. refl) (λ other. h)

pub marked_from : (flags : List Bool) (n t : ℕ) → is_set (set flags n true) t ≡ true → (t ≡ n) ⊎ (is_set flags t ≡ true)
marked_from flags n t =
    at_set (λ (b : Bool). b ≡ true → (t ≡ n) ⊎ (is_set flags t ≡ true)) flags n t true false (λ e within h. inl e) (λ other h. inr h)

-- a flag that is down after one was put up was down
pub still_down : (flags : List Bool) (n t : ℕ) → is_set (set flags n true) t ≡ false → is_set flags t ≡ false
still_down flags n t =
    at_set (λ (b : Bool). b ≡ false → is_set flags t ≡ false) flags n t true false (λ e within h. absurd (let bad : true ≡ false = h in cc)) (λ other h. h)

pub down_other : (flags : List Bool) (n t : ℕ) → (t ≡ n → ⊥) → is_set (set flags n false) t ≡ false → is_set flags t ≡ false
down_other flags n t apart h = sym (get_or-set_other flags n t false false apart) ∙ h

pub written : (flags : List Bool) (n t : ℕ) (b : Bool) → t < length flags → is_set (set flags n b) t ≡ cond (n == t) b (is_set flags t)
written flags n t b within = go (n == t) refl
  where
    go : (c : Bool) → (n == t) ≡ c → is_set (set flags n b) t ≡ cond c b (is_set flags t)
    go true e = subst (λ (k : ℕ). is_set (set flags k b) t ≡ b) (sym (eqb-true n t e)) (set_here flags t b within)
    go false e = get_or-set_other flags n t b false (λ same. eqb-false n t e (sym same))

pub beyond : (a t : ℕ) → a ≤ t → (t ≡ a → ⊥) → a + 1 ≤ t
beyond a t more apart = grind arith

-- ---- how many flags are down

abbrev one_if_not : Bool → ℕ
one_if_not b = cond (not b) 1 0

pub count_up : (flags : List Bool) (n : ℕ) → n < length flags → is_set flags n ≡ false → count_by not (set flags n true) + 1 ≡ count_by not flags
count_up flags n within h =
    omega (arith, ap one_if_not h, sum_by-set one_if_not flags n true false within)

pub count_down : (flags : List Bool) (n : ℕ) → n < length flags → count_by not (set flags n false) ≤ count_by not flags + 1
count_down flags n within = omega (arith, sum_by-set one_if_not flags n false false within)

-- ---- the busy ones

pub any_more : (p : ℕ → Bool) (xs : List ℕ) (x : ℕ) → list_any p xs ≡ true → list_any p (xs ++ x ∷ []) ≡ true
any_more p xs x h = list_any-append p xs (x ∷ []) ∙ or_left (list_any p xs) (list_any p (x ∷ [])) h

pub any_last : (p : ℕ → Bool) (xs : List ℕ) (x : ℕ) → p x ≡ true → list_any p (xs ++ x ∷ []) ≡ true
any_last p xs x h = list_any-append p xs (x ∷ []) ∙ or_right (list_any p xs) (list_any p (x ∷ [])) (or_left (p x) false h)

-- a test that passes for one of them passes for the one that is let go, or for one of the others
pub any_without : (p : ℕ → Bool) (u : ℕ) (xs : List ℕ) → list_any p xs ≡ true → (p u ≡ true) ⊎ (list_any p (filter (λ b. not (b == u)) xs) ≡ true)
any_without p u [] h = absurd cc
any_without p u (x ∷ xs) h = go (x == u) refl (or_cases (p x) (list_any p xs) h) (any_without p u xs)
  where
    more : (p u ≡ true) ⊎ (list_any p (filter (λ (b : ℕ). not (b == u)) xs) ≡ true) → (p u ≡ true) ⊎ ((p x || list_any p (filter (λ (b : ℕ). not (b == u)) xs)) ≡ true)
    more (inl k) = inl k
    more (inr k) = inr (or_right (p x) (list_any p (filter (λ (b : ℕ). not (b == u)) xs)) k)

    go : (c : Bool) → (x == u) ≡ c → (p x ≡ true) ⊎ (list_any p xs ≡ true)
        → (list_any p xs ≡ true → (p u ≡ true) ⊎ (list_any p (filter (λ (b : ℕ). not (b == u)) xs) ≡ true))
        → (p u ≡ true) ⊎ (list_any p (cond (not c) (x ∷ filter (λ (b : ℕ). not (b == u)) xs) (filter (λ (b : ℕ). not (b == u)) xs)) ≡ true)
    go true e (inl h) r = inl (subst (λ (k : ℕ). p k ≡ true) (eqb-true x u e) h)
    go true e (inr h) r = r h
    go false e (inl h) r = inr (or_left (p x) (list_any p (filter (λ (b : ℕ). not (b == u)) xs)) h)
    go false e (inr h) r = more (r h)

pub any_kept : (p f : ℕ → Bool) (xs : List ℕ) → list_any p (filter f xs) ≡ true → list_any p xs ≡ true
any_kept p f [] h = absurd cc
any_kept p f (x ∷ xs) h = go (f x) h (any_kept p f xs)
  where
    go : (c : Bool) → list_any p (cond c (x ∷ filter f xs) (filter f xs)) ≡ true → (list_any p (filter f xs) ≡ true → list_any p xs ≡ true) → (p x || list_any p xs) ≡ true
    go true h r = by (or_cases (p x) (list_any p (filter f xs)) h)
      where
        by : (p x ≡ true) ⊎ (list_any p (filter f xs) ≡ true) → (p x || list_any p xs) ≡ true
        by (inl k) = or_left (p x) (list_any p xs) k
        by (inr k) = or_right (p x) (list_any p xs) (r k)
    go false h r = or_right (p x) (list_any p xs) (r h)

length_kept : (f : ℕ → Bool) (xs : List ℕ) → length (filter f xs) ≤ length xs
length_kept f [] = omega arith
length_kept f (x ∷ xs) = go (f x) (length_kept f xs)
  where
    go : (c : Bool) → length (filter f xs) ≤ length xs → length (cond c (x ∷ filter f xs) (filter f xs)) ≤ suc (length xs)
    go true r = omega arith
    go false r = omega arith

pub length_without : (u : ℕ) (xs : List ℕ) → is_among xs u ≡ true → length (filter (λ b. not (b == u)) xs) < length xs
length_without u [] h = absurd cc
length_without u (x ∷ xs) h = go (x == u) h (length_without u xs) (length_kept (λ (b : ℕ). not (b == u)) xs)
  where
    go : (c : Bool) → (c || is_among xs u) ≡ true → (is_among xs u ≡ true → length (filter (λ (b : ℕ). not (b == u)) xs) < length xs) → length (filter (λ (b : ℕ). not (b == u)) xs) ≤ length xs
        → length (cond (not c) (x ∷ filter (λ (b : ℕ). not (b == u)) xs) (filter (λ (b : ℕ). not (b == u)) xs)) < suc (length xs)
    go true h r less = omega arith
    go false h r less = (let more = r h in omega (arith, more))
