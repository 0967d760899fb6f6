-- A note more leaves the notes in their order.
use Rattle.std.proofs.Common.{◌≡◌, Bool, true, false, cond, List, [], ◌∷◌, refl, sym, ap, ◌∙◌}
use Rattle.std.specs.Prelude.{◌&&◌}
use Rattle.std.specs.List.{list_all}
use Rattle.std.specs.Ordering.{is_lt, ordering_reverse}
use Rattle.std.specs.declared.cmp.Ordering.{Ordering}
use Rattle.std.specs.declared.cmp.Ordering.TheVariants.{Less, Equal, Greater}
use Rattle.std.proofs.lemmas.Bool.{and_parts, and_from as both}
use Rattle.task_text.specs.ChunkLog.NoteBooks.{in_order, inserted, is_before, is_no_later, place_cmp, placed}
use Rattle.task_text.specs.declared.chunk_log.note.Note.{Note}
use Rattle.task_text.proofs.ChunkLogLemmas.Places.{place_total}
use Rattle.ann_key.proofs.Orderings.{less}

-- what follows a note follows each that has its place, or stands before it
alike : (x note : Note) → place_cmp x note ≡ Equal → (xs : List Note) → list_all (is_before x) xs ≡ true → list_all (is_before note) xs ≡ true
alike x note e [] all = refl
alike x note e (y ∷ ys) all =
    let parts = and_parts (is_before x y) (list_all (is_before x) ys) all in
    both (is_before note y) (list_all (is_before note) ys) (ap is_lt (sym (place_total.congr x note y e)) ∙ parts.0) (alike x note e ys parts.1)

farther : (x note : Note) → place_cmp note x ≡ Less → (xs : List Note) → list_all (is_before x) xs ≡ true → list_all (is_before note) xs ≡ true
farther x note e [] all = refl
farther x note e (y ∷ ys) all =
    let parts = and_parts (is_before x y) (list_all (is_before x) ys) all in
    both (is_before note y) (list_all (is_before note) ys) (ap is_lt (place_total.trans note x y e (less (place_cmp x y) parts.0))) (farther x note e ys parts.1)

all_inserted : (p : Note → Bool) (note : Note) (xs : List Note) → p note ≡ true → list_all p xs ≡ true → list_all p (inserted note xs) ≡ true
all_inserted p note [] own all = both (p note) true own refl
all_inserted p note (x ∷ xs) own all =
    let parts = and_parts (p x) (list_all p xs) all in
    go (place_cmp x note) parts.0 parts.1 (all_inserted p note xs own parts.1)
  where
    one : (b : Bool) → p x ≡ true → p (cond b note x) ≡ true
    one true h = own
    one false h = h

    go : (o : Ordering) → p x ≡ true → list_all p xs ≡ true → list_all p (inserted note xs) ≡ true → list_all p (placed note x xs (inserted note xs) o) ≡ true
    go Less first rest more = both (p x) (list_all p (inserted note xs)) first more
    go Equal first rest more = both (p (cond (is_no_later x.line.stamp note.line.stamp) note x)) (list_all p xs) (one (is_no_later x.line.stamp note.line.stamp) first) rest
    go Greater first rest more = both (p note) (p x && list_all p xs) own (both (p x) (list_all p xs) first rest)

pub in_order-inserted : (note : Note) (notes : List Note) → in_order notes ≡ true → in_order (inserted note notes) ≡ true
in_order-inserted note [] order = refl
in_order-inserted note (x ∷ xs) order =
    let parts = and_parts (list_all (is_before x) xs) (in_order xs) order in
    go (place_cmp x note) refl parts.0 parts.1 (in_order-inserted note xs parts.1)
  where
    one : (b : Bool) → place_cmp x note ≡ Equal → list_all (is_before x) xs ≡ true → list_all (is_before (cond b note x)) xs ≡ true
    one true e all = alike x note e xs all
    one false e all = all

    go : (o : Ordering) → place_cmp x note ≡ o → list_all (is_before x) xs ≡ true → in_order xs ≡ true → in_order (inserted note xs) ≡ true
        → in_order (placed note x xs (inserted note xs) o) ≡ true
    go Less e all rest more = both (list_all (is_before x) (inserted note xs)) (in_order (inserted note xs)) (all_inserted (is_before x) note xs (ap is_lt e) all) more
    go Equal e all rest more =
        both (list_all (is_before (cond (is_no_later x.line.stamp note.line.stamp) note x)) xs) (in_order xs) (one (is_no_later x.line.stamp note.line.stamp) e all) rest
    go Greater e all rest more =
        let back : place_cmp note x ≡ Less = place_total.antisymm note x ∙ ap ordering_reverse e in
        both (list_all (is_before note) (x ∷ xs)) (list_all (is_before x) xs && in_order xs)
        (both (is_before note x) (list_all (is_before note) xs) (ap is_lt back) (farther x note back xs all)) (both (list_all (is_before x) xs) (in_order xs) all rest)
