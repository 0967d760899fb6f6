-- Keys and their URLs, as pairs in rising order.
use Rattle.std.specs.Prelude.{ℕ, Bool, not, ◌&&◌, List, map, filter, bytes_eq, nat_eq, Vec}
use Rattle.std.specs.declared.alloc.Global.{Global}
use Rattle.std.specs.declared.cmp.Ordering.{Ordering}
use Rattle.std.specs.Ordering.{ordering_then}
use Rattle.std.specs.List.{list_any, starts_with}
use Rattle.std.specs.List.Sorted.{IsStrictlySortedBy}
use Rattle.std.specs.BTreeSet.{insert_key}
use Rattle.registers.specs.Tables.{Texts, by_bytes}

-- the keys decide, and the URLs where the keys are one
abbrev pub by_link : List ℕ × List ℕ → List ℕ × List ℕ → Ordering
by_link x y = ordering_then (by_bytes x.0 y.0) (by_bytes x.1 y.1)

-- each pair is above those before it, so none stands twice
abbrev pub LinksRise : Texts → Type 0
LinksRise links = IsStrictlySortedBy by_link links

abbrev pub is_link : List ℕ → List ℕ → List ℕ × List ℕ → Bool
is_link key url link = bytes_eq key link.0 && bytes_eq url link.1

-- whether the key has the URL
abbrev pub has_link : Texts → List ℕ → List ℕ → Bool
has_link links key url = list_any (is_link key url) links

-- with the URL of the key, at its place in the order
abbrev pub with_link : Texts → List ℕ → List ℕ → Texts
with_link links key url = insert_key by_link links (key, url)

-- all other pairs
abbrev pub without_link : Texts → List ℕ → List ℕ → Texts
without_link links key url = filter (λ link. not (is_link key url link)) links

-- the URLs of the key that begin with the prefix, in their order
abbrev pub urls_at : Texts → List ℕ → List ℕ → List (List ℕ)
urls_at links key prefix = map (λ link. link.1) (filter (λ link. bytes_eq key link.0 && starts_with nat_eq link.1 prefix) links)

-- the texts in the vectors
abbrev pub link_of : Vec ℕ Global × Vec ℕ Global → List ℕ × List ℕ
link_of link = (link.0.items, link.1.items)

abbrev pub links_of : List (Vec ℕ Global × Vec ℕ Global) → Texts
links_of links = map link_of links
