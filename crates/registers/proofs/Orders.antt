-- Lists in order: what an insertion and a filter leave in order.
use Rattle.std.proofs.Common.{◌≡◌, Bool, true, false, cond, List, [], ◌∷◌, filter, refl, ap, ◌∙◌}
use Rattle.std.specs.declared.cmp.Ordering.{Ordering}
use Rattle.std.specs.declared.cmp.Ordering.TheVariants.{Less, Equal, Greater}
use Rattle.std.specs.Ordering.{match_ordering, ordering_reverse}
use Rattle.std.specs.Cmp.{IsTotalOrder}
use Rattle.std.specs.Map.{keys_of}
use Rattle.std.specs.BTreeMap.{insert_entry}
use Rattle.std.specs.BTreeSet.{insert_key}
use Rattle.std.specs.List.{AllByRecursion}
use Rattle.std.specs.List.Sorted.{IsStrictlySortedBy}

module _ {K : Type 0} {R : K → K → Ordering} (o : IsTotalOrder R) where
  turned : (x y : K) → R x y ≡ Greater → R y x ≡ Less
  turned x y h = o.antisymm y x ∙ ap ordering_reverse h

  further : (x y : K) (ks : List K) → R x y ≡ Less → AllByRecursion (λ k. R y k ≡ Less) ks → AllByRecursion (λ k. R x k ≡ Less) ks
  further x y [] h all = tt
  further x y (k ∷ ks) h all = (o.trans x y k h all.0, further x y ks h all.1)

  module _ {X : Type 0} (k : K) (v : X) where
    below-insert_entry : (x : K) (es : List (K × X)) → R x k ≡ Less → AllByRecursion (λ y. R x y ≡ Less) (keys_of es) → AllByRecursion (λ y. R x y ≡ Less) (keys_of (insert_entry R es k v))
    below-insert_entry x [] h all = (h, tt)
    below-insert_entry x (e ∷ es) h all =
        elim (R k e.0) as (λ r. AllByRecursion (λ y. R x y ≡ Less) (keys_of (match_ordering r ((k, v) ∷ e ∷ es) ((e.0, v) ∷ es) (e ∷ insert_entry R es k v)))) [
          | Less ↦ (h, all)
          | Equal ↦ all
          | Greater ↦ (all.0, below-insert_entry x es h all.1)
        ]

    pub sorted-insert_entry : (es : List (K × X)) → IsStrictlySortedBy R (keys_of es) → IsStrictlySortedBy R (keys_of (insert_entry R es k v))
    unfolding IsStrictlySortedBy
    sorted-insert_entry [] h = (tt, tt)
    sorted-insert_entry (e ∷ es) h =
        elim (R k e.0) as (λ r. R k e.0 ≡ r → IsStrictlySortedBy R (keys_of (match_ordering r ((k, v) ∷ e ∷ es) ((e.0, v) ∷ es) (e ∷ insert_entry R es k v)))) [
          | Less ↦ λ is. ((is, further k e.0 (keys_of es) is h.0), h)
          | Equal ↦ λ _. h
          | Greater ↦ λ is. (below-insert_entry e.0 es (turned k e.0 is) h.0, sorted-insert_entry es h.1)
        ] refl

  module _ (k : K) where
    below-insert_key : (x : K) (ks : List K) → R x k ≡ Less → AllByRecursion (λ y. R x y ≡ Less) ks → AllByRecursion (λ y. R x y ≡ Less) (insert_key R ks k)
    below-insert_key x [] h all = (h, tt)
    below-insert_key x (y ∷ ks) h all =
        elim (R k y) as (λ r. AllByRecursion (λ y. R x y ≡ Less) (match_ordering r (k ∷ y ∷ ks) (y ∷ ks) (y ∷ insert_key R ks k))) [
          | Less ↦ (h, all)
          | Equal ↦ all
          | Greater ↦ (all.0, below-insert_key x ks h all.1)
        ]

    pub sorted-insert_key : (ks : List K) → IsStrictlySortedBy R ks → IsStrictlySortedBy R (insert_key R ks k)
    unfolding IsStrictlySortedBy
    sorted-insert_key [] h = (tt, tt)
    sorted-insert_key (y ∷ ks) h =
        elim (R k y) as (λ r. R k y ≡ r → IsStrictlySortedBy R (match_ordering r (k ∷ y ∷ ks) (y ∷ ks) (y ∷ insert_key R ks k))) [
          | Less ↦ λ is. ((is, further k y ks is h.0), h)
          | Equal ↦ λ _. h
          | Greater ↦ λ is. (below-insert_key y ks (turned k y is) h.0, sorted-insert_key ks h.1)
        ] refl

module _ {K X : Type 0} (R : K → K → Ordering) (p : K × X → Bool) where
  below-filter : (x : K) (es : List (K × X)) → AllByRecursion (λ y. R x y ≡ Less) (keys_of es) → AllByRecursion (λ y. R x y ≡ Less) (keys_of (filter p es))
  below-filter x [] all = tt
  below-filter x (e ∷ es) all = elim (p e) as (λ b. AllByRecursion (λ y. R x y ≡ Less) (keys_of (cond b (e ∷ filter p es) (filter p es)))) [ true ↦ (all.0, below-filter x es all.1) | false ↦ below-filter x es all.1 ]

  pub sorted-filter : (es : List (K × X)) → IsStrictlySortedBy R (keys_of es) → IsStrictlySortedBy R (keys_of (filter p es))
  unfolding IsStrictlySortedBy
  sorted-filter [] h = tt
  sorted-filter (e ∷ es) h = elim (p e) as (λ b. IsStrictlySortedBy R (keys_of (cond b (e ∷ filter p es) (filter p es)))) [ true ↦ (below-filter e.0 es h.0, sorted-filter es h.1) | false ↦ sorted-filter es h.1 ]

module _ {K : Type 0} (R : K → K → Ordering) (p : K → Bool) where
  below-filter_keys : (x : K) (ks : List K) → AllByRecursion (λ y. R x y ≡ Less) ks → AllByRecursion (λ y. R x y ≡ Less) (filter p ks)
  below-filter_keys x [] all = tt
  below-filter_keys x (k ∷ ks) all = elim (p k) as (λ b. AllByRecursion (λ y. R x y ≡ Less) (cond b (k ∷ filter p ks) (filter p ks))) [ true ↦ (all.0, below-filter_keys x ks all.1) | false ↦ below-filter_keys x ks all.1 ]

  pub sorted-filter_keys : (ks : List K) → IsStrictlySortedBy R ks → IsStrictlySortedBy R (filter p ks)
  unfolding IsStrictlySortedBy
  sorted-filter_keys [] h = tt
  sorted-filter_keys (k ∷ ks) h = elim (p k) as (λ b. IsStrictlySortedBy R (cond b (k ∷ filter p ks) (filter p ks))) [ true ↦ (below-filter_keys k ks h.0, sorted-filter_keys ks h.1) | false ↦ sorted-filter_keys ks h.1 ]
