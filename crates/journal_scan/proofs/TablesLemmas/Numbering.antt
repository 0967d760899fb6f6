-- A set of numbers in rising order, read as the list of its keys.
use Rattle.std.proofs.Common.{◌≡◌, ℕ, ◌+◌, ◌<◌, ◌==◌, List, [], ◌∷◌, ◌++◌, Bool, true, false, cond, not, refl, sym, ap, subst, ◌∙◌, arith, filter}
use Rattle.std.specs.declared.cmp.Ordering.TheVariants.{Less, Greater}
use Rattle.std.specs.Ordering.{match_ordering, is_eq, nat_cmp}
use Rattle.std.specs.BTreeMap.{is_at}
use Rattle.std.specs.BTreeSet.{insert_key}
use Rattle.std.specs.Set.{remove_key}
use Rattle.std.specs.List.{AllByRecursion, list_any}
use Rattle.std.specs.List.Sorted.{IsStrictlySortedBy}
use Rattle.std.proofs.lemmas.Bool.Decides.{nat_tests}

is_eq-nat_cmp : (j k : ℕ) → is_eq (nat_cmp j k) ≡ (k == j)
is_eq-nat_cmp j k = grind (arith, nat_tests)

pub any_at : (j : ℕ) (ks : List ℕ) → list_any (is_at (nat_cmp j)) ks ≡ list_any (λ k. k == j) ks
any_at j ks = λ i. list_any (λ k. is_eq-nat_cmp j k i) ks

cmp_greater : (j k : ℕ) → k < j → nat_cmp j k ≡ Greater
cmp_greater j k h = grind (arith, nat_tests)

cmp_less : (j k : ℕ) → nat_cmp j k ≡ Less → j < k
cmp_less j k h = grind (arith, nat_tests)

pub insert_key-last : (n : ℕ) (ks : List ℕ) → AllByRecursion (λ k. k < n) ks → insert_key nat_cmp ks n ≡ ks ++ n ∷ []
insert_key-last n [] h = refl
insert_key-last n (k ∷ ks) h =
    ap (λ o. match_ordering o (n ∷ k ∷ ks) (k ∷ ks) (k ∷ insert_key nat_cmp ks n)) (cmp_greater n k h.0)
    ∙ ap (λ rest. k ∷ rest) (insert_key-last n ks h.1)

keeps_all : (j : ℕ) (ks : List ℕ) → AllByRecursion (λ k. nat_cmp j k ≡ Less) ks → filter (λ k. not (k == j)) ks ≡ ks
keeps_all j [] h = refl
keeps_all j (k ∷ ks) h =
    ap (λ b. cond (not b) (k ∷ filter (λ k. not (k == j)) ks) (filter (λ k. not (k == j)) ks)) (sym (is_eq-nat_cmp j k) ∙ ap is_eq h.0)
    ∙ ap (λ rest. k ∷ rest) (keeps_all j ks h.1)

same_number : (j k : ℕ) → (k == j) ≡ true → j ≡ k
same_number j k h = grind (arith, nat_tests)

pub remove_key-filter : (j : ℕ) (ks : List ℕ) → IsStrictlySortedBy nat_cmp ks → remove_key (is_at (nat_cmp j)) ks ≡ filter (λ k. not (k == j)) ks
unfolding IsStrictlySortedBy
remove_key-filter j [] h = refl
remove_key-filter j (k ∷ ks) h =
    let rest = filter (λ (k : ℕ). not (k == j)) ks in
    ap (λ b. cond b ks (k ∷ remove_key (is_at (nat_cmp j)) ks)) (is_eq-nat_cmp j k)
    ∙ elim (k == j) as (λ b. (k == j) ≡ b → cond b ks (k ∷ remove_key (is_at (nat_cmp j)) ks) ≡ cond (not b) (k ∷ rest) rest) [
      | true ↦ λ is. sym (keeps_all j ks (subst (λ (x : ℕ). AllByRecursion (λ y. nat_cmp x y ≡ Less) ks) (sym (same_number j k is)) h.0))
      | false ↦ λ _. ap (λ (r : List ℕ). k ∷ r) (remove_key-filter j ks h.1)
    ] refl

-- ---- what holds of each number

pub below_more : (n : ℕ) (ks : List ℕ) → AllByRecursion (λ k. k < n) ks → AllByRecursion (λ k. k < n + 1) (ks ++ n ∷ [])
below_more n [] h = (omega arith, tt)
below_more n (k ∷ ks) h = let first = h.0 in (omega (arith, first), below_more n ks h.1)

pub below_removed : (test : ℕ → Bool) (n : ℕ) (ks : List ℕ) → AllByRecursion (λ k. k < n) ks → AllByRecursion (λ k. k < n) (remove_key test ks)
below_removed test n [] h = tt
below_removed test n (k ∷ ks) h = elim (test k) as (λ b. AllByRecursion (λ k. k < n) (cond b ks (k ∷ remove_key test ks))) [
  | true ↦ h.1
  | false ↦ (h.0, below_removed test n ks h.1)
]
