-- A table whose names and values are read as others: f reads a name, g a value.
use Rattle.std.proofs.Common.{◌≡◌, Bool, true, false, cond, List, [], ◌∷◌, map, Some, refl, sym, ap, ◌∙◌}
use Rattle.std.specs.declared.cmp.Ordering.{Ordering}
use Rattle.std.specs.declared.cmp.Ordering.TheVariants.{Less, Equal, Greater}
use Rattle.std.specs.Ordering.{match_ordering}
use Rattle.std.specs.Option.{option_map}
use Rattle.std.specs.Map.{lookup, keys_of, remove_entry}
use Rattle.std.specs.BTreeMap.{insert_entry}
use Rattle.std.specs.List.{AllByRecursion, AllZip}
use Rattle.std.specs.List.Sorted.{IsStrictlySortedBy}

module _ {K J X Y : Type 0} (f : K → J) (g : X → Y) where
  abbrev pub seen : List (K × X) → List (J × Y)
  seen es = map (λ e. (f e.0, g e.1)) es

  -- a look-up by a test that answers alike of a name and of what it is read as
  pub lookup-seen : (test : J → Bool) (by : K → Bool) → ((k : K) → by k ≡ test (f k)) → (es : List (K × X)) → lookup test (seen es) ≡ option_map g (lookup by es)
  lookup-seen test by same [] = refl
  lookup-seen test by same (e ∷ es) =
      ap (λ b. cond b (Some (g e.1)) (lookup test (seen es))) (sym (same e.0))
      ∙ elim (by e.0) as (λ b. cond b (Some (g e.1)) (lookup test (seen es)) ≡ option_map g (cond b (Some e.1) (lookup by es))) [
        | true ↦ refl
        | false ↦ lookup-seen test by same es
      ]

  pub insert_entry-seen : (R : J → J → Ordering) (es : List (K × X)) (k : K) (v : X) → seen (insert_entry (λ x y. R (f x) (f y)) es k v) ≡ insert_entry R (seen es) (f k) (g v)
  insert_entry-seen R [] k v = refl
  insert_entry-seen R (e ∷ es) k v =
      elim (R (f k) (f e.0)) as (λ o. seen (match_ordering o ((k, v) ∷ e ∷ es) ((e.0, v) ∷ es) (e ∷ insert_entry (λ x y. R (f x) (f y)) es k v)) ≡ match_ordering o ((f k, g v) ∷ seen (e ∷ es)) ((f e.0, g v) ∷ seen es) ((f e.0, g e.1) ∷ insert_entry R (seen es) (f k) (g v))) [
        | Less ↦ refl
        | Equal ↦ refl
        | Greater ↦ ap (λ rest. (f e.0, g e.1) ∷ rest) (insert_entry-seen R es k v)
      ]

  pub remove_entry-seen : (test : J → Bool) (by : K → Bool) → ((k : K) → by k ≡ test (f k)) → (es : List (K × X)) → seen (remove_entry by es) ≡ remove_entry test (seen es)
  remove_entry-seen test by same [] = refl
  remove_entry-seen test by same (e ∷ es) =
      elim (by e.0) as (λ b. seen (cond b es (e ∷ remove_entry by es)) ≡ cond b (seen es) ((f e.0, g e.1) ∷ remove_entry test (seen es))) [
        | true ↦ refl
        | false ↦ ap (λ rest. (f e.0, g e.1) ∷ rest) (remove_entry-seen test by same es)
      ] ∙ ap (λ b. cond b (seen es) ((f e.0, g e.1) ∷ remove_entry test (seen es))) (same e.0)

  below-seen : (R : J → J → Ordering) (k : K) (es : List (K × X)) → AllByRecursion (λ y. R (f k) (f y) ≡ Less) (keys_of es) → AllByRecursion (λ y. R (f k) y ≡ Less) (keys_of (seen es))
  below-seen R k [] h = tt
  below-seen R k (e ∷ es) h = (h.0, below-seen R k es h.1)

  pub rises-seen : (R : J → J → Ordering) (es : List (K × X)) → IsStrictlySortedBy (λ x y. R (f x) (f y)) (keys_of es) → IsStrictlySortedBy R (keys_of (seen es))
  unfolding IsStrictlySortedBy
  rises-seen R [] h = tt
  rises-seen R (e ∷ es) h = (below-seen R e.0 es h.0, rises-seen R es h.1)

  -- copies that are read as their sources are
  pub seen_copies : (C : K → K → Type 0) (D : X → X → Type 0) → ((x y : K) → C x y → f y ≡ f x) → ((x y : X) → D x y → g y ≡ g x) → (es fs : List (K × X)) → AllZip (λ p q. C p.0 q.0 × D p.1 q.1) es fs → seen fs ≡ seen es
  seen_copies C D names values [] [] h = refl
  seen_copies C D names values [] (c ∷ cs) h = absurd h
  seen_copies C D names values (e ∷ es) [] h = absurd h
  seen_copies C D names values (e ∷ es) (c ∷ cs) h = λ i. (names e.0 c.0 h.0.0 i, values e.1 c.1 h.0.1 i) ∷ seen_copies C D names values es cs h.1 i
