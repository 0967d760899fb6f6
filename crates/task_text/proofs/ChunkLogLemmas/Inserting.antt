-- What a set of notes does with one more.
use Rattle.std.proofs.Common.{◌≡◌, Bool, true, false, cond, not, List, [], ◌∷◌, ◌++◌, Option, Some, None, refl, sym, ap, append_assoc, ◌∙◌}
use Rattle.std.specs.Prelude.{find}
use Rattle.std.specs.List.{list_all}
use Rattle.std.specs.Ordering.{is_eq, match_ordering, ordering_reverse}
use Rattle.std.specs.declared.cmp.Ordering.{Ordering}
use Rattle.std.specs.declared.cmp.Ordering.TheVariants.{Less, Equal, Greater}
use Rattle.std.specs.BTreeSet.{insert_key, replace_key}
use Rattle.std.proofs.lemmas.Bool.{and_parts}
use Rattle.task_text.specs.ChunkLog.NoteBooks.{in_order, inserted, is_before, is_newer, is_no_later, is_outdated, place_cmp, placed}
use Rattle.task_text.specs.declared.chunk_log.note.Note.{Note}
use Rattle.task_text.proofs.ChunkLogLemmas.Places.{place_total}
use Rattle.ann_key.proofs.Orderings.{less}

turned : (x y : Note) (o : Ordering) → place_cmp x y ≡ o → place_cmp y x ≡ ordering_reverse o
turned x y o e = place_total.antisymm y x ∙ ap ordering_reverse e

-- none of those after a note has the place of one that stands before it
none_there : (note x : Note) → place_cmp note x ≡ Less → (xs : List Note) → list_all (is_before x) xs ≡ true → find (λ there. is_eq (place_cmp note there)) xs ≡ None
none_there note x e [] all = refl
none_there note x e (y ∷ ys) all =
    let parts = and_parts (is_before x y) (list_all (is_before x) ys) all in
    let before : place_cmp note y ≡ Less = place_total.trans note x y e (less (place_cmp x y) parts.0) in
    ap (λ (o : Ordering). cond {A = Option Note} (is_eq o) (Some y) (find (λ there. is_eq (place_cmp note there)) ys)) before ∙ none_there note x e ys parts.1

-- a note is left out where a newer one has its place, and else put in
put : (note : Note) (xs : List Note) → in_order xs ≡ true → cond (is_outdated note xs) xs (replace_key place_cmp xs note) ≡ inserted note xs
put note [] order = refl
put note (x ∷ xs) order =
    let parts = and_parts (list_all (is_before x) xs) (in_order xs) order in go (place_cmp x note) refl parts.0 (put note xs parts.1)
  where
    found : Option Note
    found = find (λ there. is_eq (place_cmp note there)) xs

    behind : List Note
    behind = replace_key place_cmp xs note

    pull : (b : Bool) (l : List Note) → cond b xs l ≡ inserted note xs → cond b (x ∷ xs) (x ∷ l) ≡ x ∷ inserted note xs
    pull true l h = ap (λ (k : List Note). x ∷ k) h
    pull false l h = ap (λ (k : List Note). x ∷ k) h

    pick : (b : Bool) → cond (not b) (x ∷ xs) (note ∷ xs) ≡ cond b note x ∷ xs
    pick true = refl
    pick false = refl

    whole : Ordering → List Note
    whole p = cond (is_newer note (cond {A = Option Note} (is_eq p) (Some x) found)) (x ∷ xs) (match_ordering p (note ∷ x ∷ xs) (note ∷ xs) (x ∷ behind))

    go : (o : Ordering) → place_cmp x note ≡ o → list_all (is_before x) xs ≡ true → cond (is_outdated note xs) xs behind ≡ inserted note xs
        → whole (place_cmp note x) ≡ placed note x xs (inserted note xs) o
    go Less e all more = ap whole (turned x note Less e) ∙ pull (is_newer note found) behind more
    go Equal e all more = ap whole (turned x note Equal e) ∙ pick (is_no_later x.line.stamp note.line.stamp)
    go Greater e all more =
        let back : place_cmp note x ≡ Less = turned x note Greater e in
        ap whole back ∙ ap (λ (o : Option Note). cond (is_newer note o) (x ∷ xs) (note ∷ x ∷ xs)) (none_there note x back xs all)

pub left_out : (note : Note) (xs : List Note) → in_order xs ≡ true → is_outdated note xs ≡ true → xs ≡ inserted note xs
left_out note xs order is = sym (ap (λ (b : Bool). cond b xs (replace_key place_cmp xs note)) is) ∙ put note xs order

pub put_in : (note : Note) (xs : List Note) → in_order xs ≡ true → is_outdated note xs ≡ false → replace_key place_cmp xs note ≡ inserted note xs
put_in note xs order is = sym (ap (λ (b : Bool). cond b xs (replace_key place_cmp xs note)) is) ∙ put note xs order

-- ---- notes that come in their order

passes : (test : Note → Bool) (xs : List Note) (x : Note) (rest : List Note) → list_all test (xs ++ x ∷ rest) ≡ true → test x ≡ true
passes test [] x rest all = (and_parts (test x) (list_all test rest) all).0
passes test (y ∷ ys) x rest all = passes test ys x rest (and_parts (test y) (list_all test (ys ++ x ∷ rest)) all).1

behind_all : (xs : List Note) (x : Note) (rest : List Note) → in_order (xs ++ x ∷ rest) ≡ true → insert_key place_cmp xs x ≡ xs ++ x ∷ []
behind_all [] x rest order = refl
behind_all (y ∷ ys) x rest order =
    let parts = and_parts (list_all (is_before y) (ys ++ x ∷ rest)) (in_order (ys ++ x ∷ rest)) order in
    let before : place_cmp y x ≡ Less = less (place_cmp y x) (passes (is_before y) ys x rest parts.0) in
    ap (λ (o : Ordering). match_ordering o (x ∷ y ∷ ys) (y ∷ ys) (y ∷ insert_key place_cmp ys x)) (turned y x Less before)
    ∙ ap (λ (l : List Note). y ∷ l) (behind_all ys x rest parts.1)

-- notes of which some were taken in, one more, and those that are left
pub one_more : (all taken rest more : List Note) (x : Note) → in_order all ≡ true → taken ++ rest ≡ all → rest ≡ x ∷ more → insert_key place_cmp taken x ++ more ≡ all
one_more all taken rest more x order so_far next =
    let now : taken ++ x ∷ more ≡ all = ap (λ (l : List Note). taken ++ l) (sym next) ∙ so_far in
    ap (λ (l : List Note). l ++ more) (behind_all taken x more (ap in_order now ∙ order)) ∙ append_assoc taken (x ∷ []) more ∙ now
