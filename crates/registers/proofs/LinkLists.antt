-- A set of pairs of vectors, read as links.
use Rattle.std.proofs.Common.{◌≡◌, ℕ, Bool, true, false, cond, not, ◌&&◌, List, [], ◌∷◌, Vec, bytes_eq, nat_eq, filter, map, sym, ap, subst, refl, ◌∙◌}
use Rattle.std.specs.declared.alloc.Global.{Global}
use Rattle.std.specs.declared.cmp.Ordering.{Ordering}
use Rattle.std.specs.declared.cmp.Ordering.TheVariants.{Less, Equal, Greater}
use Rattle.std.specs.Ordering.{match_ordering, is_eq, ordering_then}
use Rattle.std.specs.BTreeMap.{is_at}
use Rattle.std.specs.BTreeSet.{insert_key}
use Rattle.std.specs.Set.{remove_key}
use Rattle.std.specs.List.{AllZip, AllByRecursion, starts_with}
use Rattle.std.specs.List.Sorted.{IsStrictlySortedBy}
use Rattle.registers.specs.Tables.{Texts, by_bytes}
use Rattle.registers.specs.Links.{by_link, LinksRise, is_link, with_link, without_link, urls_at, link_of, links_of}
use Rattle.registers.proofs.Tables.{is_eq-by_bytes, IsVecCopy, items_of_copy}
use Rattle.std.proofs.lemmas.Bool.{and_parts as both}
use Rattle.ann_key.proofs.Lists.{equal_bytes as same_bytes}

abbrev pub Link : Type 0
Link = Vec ℕ Global × Vec ℕ Global

abbrev pub by_vectors : Link → Link → Ordering
by_vectors x y = ordering_then (by_bytes x.0.items y.0.items) (by_bytes x.1.items y.1.items)

is_eq-then : (o p : Ordering) → is_eq (ordering_then o p) ≡ (is_eq o && is_eq p)
is_eq-then Less p = refl
is_eq-then Equal p = refl
is_eq-then Greater p = refl

pub is_eq-by_link : (x y : List ℕ × List ℕ) → is_eq (by_link x y) ≡ is_link x.0 x.1 y
is_eq-by_link x y = is_eq-then (by_bytes x.0 y.0) (by_bytes x.1 y.1) ∙ (λ i. is_eq-by_bytes x.0 y.0 i && is_eq-by_bytes x.1 y.1 i)

-- ---- reading
pub insert_key-links_of : (links : List Link) (link : Link) → links_of (insert_key by_vectors links link) ≡ with_link (links_of links) link.0.items link.1.items
insert_key-links_of [] link = refl
insert_key-links_of (l ∷ ls) link =
    elim (by_vectors link l) as (λ o. links_of (match_ordering o (link ∷ l ∷ ls) (l ∷ ls) (l ∷ insert_key by_vectors ls link)) ≡ match_ordering o (link_of link ∷ links_of (l ∷ ls)) (links_of (l ∷ ls)) (link_of l ∷ with_link (links_of ls) link.0.items link.1.items)) [
      | Less ↦ refl
      | Equal ↦ refl
      | Greater ↦ ap (λ rest. link_of l ∷ rest) (insert_key-links_of ls link)
    ]

below-links_of : (link : Link) (links : List Link) → AllByRecursion (λ y. by_vectors link y ≡ Less) links → AllByRecursion (λ y. by_link (link_of link) y ≡ Less) (links_of links)
below-links_of link [] h = tt
below-links_of link (l ∷ ls) h = (h.0, below-links_of link ls h.1)

pub LinksRise-links_of : (links : List Link) → IsStrictlySortedBy by_vectors links → LinksRise (links_of links)
unfolding IsStrictlySortedBy
LinksRise-links_of [] h = tt
LinksRise-links_of (l ∷ ls) h = (below-links_of l ls h.0, LinksRise-links_of ls h.1)

keeps_all : (x : List ℕ × List ℕ) (links : Texts) → AllByRecursion (λ y. by_link x y ≡ Less) links → without_link links x.0 x.1 ≡ links
keeps_all x [] h = refl
keeps_all x (l ∷ ls) h =
    ap (λ b. cond (not b) (l ∷ without_link ls x.0 x.1) (without_link ls x.0 x.1)) (sym (is_eq-by_link x l) ∙ ap is_eq h.0) ∙ ap (λ rest. l ∷ rest) (keeps_all x ls h.1)

pub same_link : (key url : List ℕ) (l : List ℕ × List ℕ) → is_link key url l ≡ true → (key, url) ≡ l
same_link key url l h = let parts = both _ _ h in λ i. (same_bytes key l.0 parts.0 i, same_bytes url l.1 parts.1 i)

pub remove_key-links_of : (link : Link) (links : List Link) → LinksRise (links_of links) → links_of (remove_key (is_at (by_vectors link)) links) ≡ without_link (links_of links) link.0.items link.1.items
unfolding IsStrictlySortedBy
remove_key-links_of link [] h = refl
remove_key-links_of link (l ∷ ls) h =
    let rest = without_link (links_of ls) link.0.items link.1.items in
    ap (λ b. links_of (cond b ls (l ∷ remove_key (is_at (by_vectors link)) ls))) (is_eq-by_link (link_of link) (link_of l))
    ∙ elim (is_link link.0.items link.1.items (link_of l)) as (λ b. is_link link.0.items link.1.items (link_of l) ≡ b → links_of (cond b ls (l ∷ remove_key (is_at (by_vectors link)) ls)) ≡ cond (not b) (link_of l ∷ rest) rest) [
      | true ↦ λ is. sym (keeps_all (link_of link) (links_of ls) (subst (λ x. AllByRecursion (λ y. by_link x y ≡ Less) (links_of ls)) (sym (same_link _ _ (link_of l) is)) h.0))
      | false ↦ λ _. ap (λ r. link_of l ∷ r) (remove_key-links_of link ls h.1)
    ] refl

-- a filter by what the links are read as
filter-links_of : (p : List ℕ × List ℕ → Bool) (links : List Link) → filter p (links_of links) ≡ links_of (filter (λ l. p (link_of l)) links)
filter-links_of p [] = refl
filter-links_of p (l ∷ ls) = elim (p (link_of l)) as (λ b. cond b (link_of l ∷ filter p (links_of ls)) (filter p (links_of ls)) ≡ links_of (cond b (l ∷ filter (λ l. p (link_of l)) ls) (filter (λ l. p (link_of l)) ls))) [
  | true ↦ ap (λ rest. link_of l ∷ rest) (filter-links_of p ls)
  | false ↦ filter-links_of p ls
]

pub urls_at-links_of : (key prefix : List ℕ) (links : List Link) → urls_at (links_of links) key prefix ≡ map (λ l. l.1.items) (filter (λ l. bytes_eq key l.0.items && starts_with nat_eq l.1.items prefix) links)
urls_at-links_of key prefix links = ap (map (λ l. l.1)) (filter-links_of (λ l. bytes_eq key l.0 && starts_with nat_eq l.1 prefix) links) ∙ map-links_of (filter (λ l. bytes_eq key l.0.items && starts_with nat_eq l.1.items prefix) links)
  where
    map-links_of : (ls : List Link) → map (λ l. l.1) (links_of ls) ≡ map (λ l. l.1.items) ls
    map-links_of [] = refl
    map-links_of (l ∷ ls) = ap (λ rest. l.1.items ∷ rest) (map-links_of ls)

module _ {C : ℕ → ℕ → Type 0} (D : Vec ℕ Global → Vec ℕ Global → Type 0) (copy : (a b : ℕ) → C a b → b ≡ a) where
  pub links_of_copies : (ks ls : List Link) → AllZip (λ p q. IsVecCopy {C = C} D copy p.0 q.0 × IsVecCopy {C = C} D copy p.1 q.1) ks ls → links_of ls ≡ links_of ks
  links_of_copies [] [] h = refl
  links_of_copies [] (l ∷ ls) h = absurd h
  links_of_copies (k ∷ ks) [] h = absurd h
  links_of_copies (k ∷ ks) (l ∷ ls) h = λ i. (items_of_copy D copy k.0 l.0 h.0.0 i, items_of_copy D copy k.1 l.1 h.0.1 i) ∷ links_of_copies ks ls h.1 i
