-- Texts under names, in the rising byte order of the names.
use Rattle.std.specs.Prelude.{ℕ, not, List, [], map, filter, bytes_eq, unwrap_or, Option, Vec}
use Rattle.std.specs.declared.alloc.Global.{Global}
use Rattle.std.specs.declared.cmp.Ordering.{Ordering}
use Rattle.std.specs.Ordering.{nat_cmp}
use Rattle.std.specs.Cmp.Lexicographic.{slice_cmp}
use Rattle.std.specs.List.Sorted.{IsStrictlySortedBy}
use Rattle.std.specs.Map.{lookup, keys_of}
use Rattle.std.specs.BTreeMap.{insert_entry}

abbrev pub Texts : Type 0
Texts = List (List ℕ × List ℕ)

-- the first byte that differs decides, and what begins another text is below it
abbrev pub by_bytes : List ℕ → List ℕ → Ordering
by_bytes x y = slice_cmp nat_cmp x y

-- each name is above those before it, so none stands twice
abbrev pub Rises : {X : Type 0} → List (List ℕ × X) → Type 0
Rises entries = IsStrictlySortedBy by_bytes (keys_of entries)

-- what stands under the name
abbrev pub value_at : {X : Type 0} → List (List ℕ × X) → List ℕ → Option X
value_at entries name = lookup (bytes_eq name) entries

-- the same, and the empty text where nothing does
abbrev pub text_at : Texts → List ℕ → List ℕ
text_at entries name = unwrap_or (value_at entries name) []

-- with the value under the name, at its place in the order
abbrev pub put : {X : Type 0} → List (List ℕ × X) → List ℕ → X → List (List ℕ × X)
put entries name value = insert_entry by_bytes entries name value

-- the entries of all other names
abbrev pub without : {X : Type 0} → List (List ℕ × X) → List ℕ → List (List ℕ × X)
without entries name = filter (λ e. not (bytes_eq name e.0)) entries

-- the texts in the vectors
abbrev pub texts_of : List (Vec ℕ Global × Vec ℕ Global) → Texts
texts_of entries = map (λ e. (e.0.items, e.1.items)) entries
