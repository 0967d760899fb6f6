-- Tables in the order of their names.
use Rattle.std.proofs.Common.{◌≡◌, ℕ, Bool, true, false, cond, not, List, [], ◌∷◌, Some, None, bytes_eq, refl, sym, ap, subst, ◌∙◌}
use mathlib.Core.Bool.{false≢true}
use Rattle.std.specs.declared.cmp.Ordering.{Ordering}
use Rattle.std.specs.declared.cmp.Ordering.TheVariants.{Less, Equal, Greater}
use Rattle.std.specs.Ordering.{match_ordering, is_eq}
use Rattle.std.specs.Map.{lookup, keys_of, remove_entry}
use Rattle.std.specs.List.{AllByRecursion, AllZip}
use Rattle.std.specs.List.Sorted.{IsStrictlySortedBy}
use Rattle.std.proofs.lemmas.Map.Text.{is_eq-slice_cmp}
use Rattle.std.specs.declared.alloc.Global.{Global}
use Rattle.std.specs.Option.{option_map}
use Rattle.std.specs.BTreeMap.{insert_entry, is_at}
use Rattle.std.proofs.Common.{Vec}
use Rattle.registers.specs.Tables.{by_bytes, Rises, value_at, put, without, texts_of}
use Rattle.registers.proofs.Seen.{lookup-seen, insert_entry-seen, remove_entry-seen, rises-seen, seen_copies}
use Rattle.ann_key.proofs.Lists.{equal_bytes as same_bytes}

-- one test, as the order and as `==` write it
pub is_eq-by_bytes : (x y : List ℕ) → is_eq (by_bytes x y) ≡ bytes_eq x y
is_eq-by_bytes x y = is_eq-slice_cmp x y

unlike : {o : Ordering} (x y : List ℕ) → by_bytes x y ≡ o → is_eq o ≡ false → bytes_eq x y ≡ false
unlike x y e h = sym (is_eq-by_bytes x y) ∙ ap is_eq e ∙ h

pub alike : (x y : List ℕ) → by_bytes x y ≡ Equal → bytes_eq x y ≡ true
alike x y e = sym (is_eq-by_bytes x y) ∙ ap is_eq e

-- one text is not both of two others
apart : (x y q : List ℕ) → bytes_eq x y ≡ false → bytes_eq q y ≡ true → bytes_eq q x ≡ true → ⊥
apart x y q other is_y is_x = false≢true (sym other ∙ subst (λ z. bytes_eq z y ≡ true) (same_bytes q x is_x) is_y)

-- ---- tests one after the other
cond-same : {A : Type 0} (b : Bool) (x : A) → cond b x x ≡ x
cond-same true x = refl
cond-same false x = refl

shadowed : {A : Type 0} (b : Bool) (x y z : A) → cond b x z ≡ cond b x (cond b y z)
shadowed true x y z = refl
shadowed false x y z = refl

swapped : {A : Type 0} (a b : Bool) (x y z : A) → (a ≡ true → b ≡ true → ⊥) → cond a x (cond b y z) ≡ cond b y (cond a x z)
swapped true true x y z never = absurd (never refl refl)
swapped true false x y z never = refl
swapped false b x y z never = refl

module _ {X : Type 0} where
  -- where all names are above one that is the given name, none of them is it
  keeps_all : (name : List ℕ) (es : List (List ℕ × X)) → AllByRecursion (λ y. by_bytes name y ≡ Less) (keys_of es) → without es name ≡ es
  keeps_all name [] h = refl
  keeps_all name (e ∷ es) h =
      ap (λ b. cond (not b) (e ∷ without es name) (without es name)) (unlike name e.0 h.0 refl) ∙ ap (λ rest. e ∷ rest) (keeps_all name es h.1)

  -- in a table that rises the first entry of a name is all of them
  pub remove_entry-rises : (name : List ℕ) (es : List (List ℕ × X)) → Rises es → remove_entry (bytes_eq name) es ≡ without es name
  unfolding IsStrictlySortedBy
  remove_entry-rises name [] h = refl
  remove_entry-rises name (e ∷ es) h =
      elim (bytes_eq name e.0) as (λ b. bytes_eq name e.0 ≡ b → cond b es (e ∷ remove_entry (bytes_eq name) es) ≡ cond (not b) (e ∷ without es name) (without es name)) [
        | true ↦ λ is. sym (keeps_all name es (subst (λ n. AllByRecursion (λ y. by_bytes n y ≡ Less) (keys_of es)) (sym (same_bytes name e.0 is)) h.0))
        | false ↦ λ _. ap (λ rest. e ∷ rest) (remove_entry-rises name es h.1)
      ] refl

  -- ---- what a change does to look-ups
  pub value_at-put : (es : List (List ℕ × X)) (name : List ℕ) (value : X) (q : List ℕ) → value_at (put es name value) q ≡ cond (bytes_eq q name) (Some value) (value_at es q)
  value_at-put [] name value q = refl
  value_at-put (e ∷ es) name value q =
      elim (by_bytes name e.0) as (λ o. by_bytes name e.0 ≡ o → value_at (match_ordering o ((name, value) ∷ e ∷ es) ((e.0, value) ∷ es) (e ∷ put es name value)) q ≡ cond (bytes_eq q name) (Some value) (cond (bytes_eq q e.0) (Some e.1) (value_at es q))) [
        | Less ↦ λ _. refl
        | Equal ↦ λ tied. ap (λ n. cond (bytes_eq q n) (Some value) (value_at es q)) (sym (same_bytes name e.0 (alike name e.0 tied)))
            ∙ shadowed (bytes_eq q name) _ _ _ ∙ ap (λ n. cond (bytes_eq q name) (Some value) (cond (bytes_eq q n) (Some e.1) (value_at es q))) (same_bytes name e.0 (alike name e.0 tied))
        | Greater ↦ λ above. ap (cond (bytes_eq q e.0) (Some e.1)) (value_at-put es name value q)
            ∙ swapped (bytes_eq q e.0) (bytes_eq q name) _ _ _ (apart name e.0 q (unlike name e.0 above refl))
      ] refl

  pub value_at-without : (es : List (List ℕ × X)) (name q : List ℕ) → value_at (without es name) q ≡ cond (bytes_eq q name) None (value_at es q)
  value_at-without [] name q = sym (cond-same (bytes_eq q name) None)
  value_at-without (e ∷ es) name q =
      elim (bytes_eq name e.0) as (λ b. bytes_eq name e.0 ≡ b → value_at (cond (not b) (e ∷ without es name) (without es name)) q ≡ cond (bytes_eq q name) None (cond (bytes_eq q e.0) (Some e.1) (value_at es q))) [
        | true ↦ λ is. value_at-without es name q ∙ shadowed (bytes_eq q name) _ (Some e.1) _
            ∙ ap (λ n. cond (bytes_eq q name) None (cond (bytes_eq q n) (Some e.1) (value_at es q))) (same_bytes name e.0 is)
        | false ↦ λ isnt. ap (cond (bytes_eq q e.0) (Some e.1)) (value_at-without es name q)
            ∙ swapped (bytes_eq q e.0) (bytes_eq q name) _ _ _ (apart name e.0 q isnt)
      ] refl

-- ---- a table of vectors, read as one of texts
module _ (es : List (Vec ℕ Global × Vec ℕ Global)) where
  pub value_at-texts_of : (name : List ℕ) → value_at (texts_of es) name ≡ option_map (λ v. v.items) (lookup (is_at (λ k. by_bytes name k.items)) es)
  value_at-texts_of name = lookup-seen (λ v. v.items) (λ v. v.items) (bytes_eq name) (is_at (λ k. by_bytes name k.items)) (λ k. is_eq-by_bytes name k.items) es

  pub put-texts_of : (name value : Vec ℕ Global) → texts_of (insert_entry (λ x y. by_bytes x.items y.items) es name value) ≡ put (texts_of es) name.items value.items
  put-texts_of name value = insert_entry-seen (λ v. v.items) (λ v. v.items) by_bytes es name value

  pub Rises-texts_of : IsStrictlySortedBy (λ x y. by_bytes x.items y.items) (keys_of es) → Rises (texts_of es)
  Rises-texts_of h = rises-seen (λ v. v.items) (λ v. v.items) by_bytes es h

  pub without-texts_of : (name : List ℕ) → Rises (texts_of es) → texts_of (remove_entry (is_at (λ k. by_bytes name k.items)) es) ≡ without (texts_of es) name
  without-texts_of name h = remove_entry-seen (λ v. v.items) (λ v. v.items) (bytes_eq name) (is_at (λ k. by_bytes name k.items)) (λ k. is_eq-by_bytes name k.items) es ∙ remove_entry-rises name _ h

-- a vector whose bytes are copies has the same bytes
same_items : {C : ℕ → ℕ → Type 0} → ((a b : ℕ) → C a b → b ≡ a) → (xs ys : List ℕ) → AllZip C xs ys → ys ≡ xs
same_items copy [] [] h = refl
same_items copy [] (y ∷ ys) h = absurd h
same_items copy (x ∷ xs) [] h = absurd h
same_items copy (x ∷ xs) (y ∷ ys) h = λ i. copy x y h.0 i ∷ same_items copy xs ys h.1 i

module _ {C : ℕ → ℕ → Type 0} (D : Vec ℕ Global → Vec ℕ Global → Type 0) (copy : (a b : ℕ) → C a b → b ≡ a) where
  abbrev pub IsVecCopy : Vec ℕ Global → Vec ℕ Global → Type 0
  IsVecCopy v w = AllZip C v.items w.items × D v w

  pub items_of_copy : (v w : Vec ℕ Global) → IsVecCopy v w → w.items ≡ v.items
  items_of_copy v w c = same_items copy _ _ c.0

  pub texts_of_copies : (es fs : List (Vec ℕ Global × Vec ℕ Global)) → AllZip (λ p q. IsVecCopy p.0 q.0 × IsVecCopy p.1 q.1) es fs → texts_of fs ≡ texts_of es
  texts_of_copies es fs h = seen_copies (λ v. v.items) (λ v. v.items) IsVecCopy IsVecCopy items_of_copy items_of_copy es fs h
