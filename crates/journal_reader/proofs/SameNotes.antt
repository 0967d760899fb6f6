-- Notes in order, of which the same count, are the same.
use Rattle.std.proofs.Common.{◌≡◌, ℕ, Bool, true, false, cond, ◌&&◌, List, [], ◌∷◌, filter, fold, map, Some, None, refl, sym, ap, ◌∙◌}
use Rattle.std.specs.List.{list_all}
use Rattle.std.specs.Ordering.{is_lt, ordering_reverse}
use Rattle.std.specs.declared.cmp.Ordering.{Ordering}
use Rattle.std.specs.declared.cmp.Ordering.TheVariants.{Less, Equal, Greater}
use Rattle.std.proofs.lemmas.Bool.{and_parts, and_from as both_true}
use Rattle.task_text.specs.ChunkLog.NoteBooks.{counting, in_order, is_before, is_of, newer, place_cmp}
use Rattle.task_text.specs.declared.chunk_log.line.ChunkLine.{ChunkLine}
use Rattle.task_text.specs.declared.chunk_log.note.Note.{Note}
use Rattle.task_text.proofs.ChunkLogLemmas.Places.{is_of-same, place_total, same-is_of, same_place}
use Rattle.kept_file.specs.Text.KeptFiles.{cut_note, CountsAs}
use Rattle.ann_key.proofs.Orderings.{less}
use Rattle.journal_model.proofs.Noting.{own_place, farther as before_all}

-- none of the notes after one has its place
absent : (key uuid : List ℕ) (chunk : ℕ) (x : Note) (xs : List Note) → list_all (is_before x) xs ≡ true → is_of key uuid chunk x ≡ true → filter (is_of key uuid chunk) xs ≡ []
absent key uuid chunk x [] all own = refl
absent key uuid chunk x (y ∷ ys) all own =
    let parts = and_parts (is_before x y) (list_all (is_before x) ys) all in
    go (is_of key uuid chunk y) refl parts.0 (absent key uuid chunk x ys parts.1 own)
  where
    go : (b : Bool) → is_of key uuid chunk y ≡ b → is_before x y ≡ true → filter (is_of key uuid chunk) ys ≡ []
        → cond b (y ∷ filter (is_of key uuid chunk) ys) (filter (is_of key uuid chunk) ys) ≡ []
    go true e first rest =
        let tie : place_cmp x y ≡ Equal = same-is_of key uuid chunk x y own e in
        let before : place_cmp x y ≡ Less = less (place_cmp x y) first in
        absurd cc
    go false e first rest = rest

absent_counts : (key uuid : List ℕ) (chunk : ℕ) (x : Note) (xs : List Note) → list_all (is_before x) xs ≡ true → is_of key uuid chunk x ≡ true → counting xs key uuid chunk ≡ None
absent_counts key uuid chunk x xs all own = ap (λ (ns : List Note). fold newer None ns) (absent key uuid chunk x xs all own)

own_counts : (key uuid : List ℕ) (chunk : ℕ) (x : Note) (xs : List Note) → list_all (is_before x) xs ≡ true → is_of key uuid chunk x ≡ true → counting (x ∷ xs) key uuid chunk ≡ Some x.line
own_counts key uuid chunk x xs all own =
    ap (λ (b : Bool). fold newer None (cond b (x ∷ filter (is_of key uuid chunk) xs) (filter (is_of key uuid chunk) xs))) own
    ∙ ap (λ (ns : List Note). fold newer None (x ∷ ns)) (absent key uuid chunk x xs all own)

other_counts : (key uuid : List ℕ) (chunk : ℕ) (x : Note) (xs : List Note) → is_of key uuid chunk x ≡ false → counting (x ∷ xs) key uuid chunk ≡ counting xs key uuid chunk
other_counts key uuid chunk x xs other = ap (λ (b : Bool). fold newer None (cond b (x ∷ filter (is_of key uuid chunk) xs) (filter (is_of key uuid chunk) xs))) other

-- the first of some is not missing among others
missing : {A : Type 0} (x y : Note) (xs ys : List Note) → list_all (is_before x) xs ≡ true → list_all (is_before y) ys ≡ true → place_cmp x y ≡ Less
    → counting (x ∷ xs) x.key x.line.uuid x.line.chunk ≡ counting (y ∷ ys) x.key x.line.uuid x.line.chunk → A
missing x y xs ys all others e same =
    let own = own_counts x.key x.line.uuid x.line.chunk x xs all (own_place x) in
    let behind = both_true (is_before x y) (list_all (is_before x) ys) (ap is_lt e) (before_all x y ys e others) in
    let none = absent_counts x.key x.line.uuid x.line.chunk x (y ∷ ys) behind (own_place x) in
    let bad : Some x.line ≡ None = sym own ∙ same ∙ none in
    absurd cc

rest_counts : (x y : Note) (xs ys : List Note) → list_all (is_before x) xs ≡ true → list_all (is_before y) ys ≡ true → place_cmp x y ≡ Equal → CountsAs (x ∷ xs) (y ∷ ys) → CountsAs xs ys
rest_counts x y xs ys all others e same key uuid chunk = go (is_of key uuid chunk x) refl
  where
    go : (b : Bool) → is_of key uuid chunk x ≡ b → counting xs key uuid chunk ≡ counting ys key uuid chunk
    go true f =
        absent_counts key uuid chunk x xs all f ∙ sym (absent_counts key uuid chunk y ys others (sym (is_of-same key uuid chunk x y e) ∙ f))
    go false f =
        sym (other_counts key uuid chunk x xs f) ∙ same key uuid chunk ∙ other_counts key uuid chunk y ys (sym (is_of-same key uuid chunk x y e) ∙ f)

same_first : (x y : Note) (xs ys : List Note) → list_all (is_before x) xs ≡ true → list_all (is_before y) ys ≡ true → place_cmp x y ≡ Equal → CountsAs (x ∷ xs) (y ∷ ys) → x ≡ y
same_first x y xs ys all others e same =
    let key = x.key in
    let uuid = x.line.uuid in
    let chunk = x.line.chunk in
    let place = same_place x y e in
    let first = own_counts key uuid chunk x xs all (own_place x) in
    let second = own_counts key uuid chunk y ys others (sym (is_of-same key uuid chunk x y e) ∙ own_place x) in
    let both : Some x.line ≡ Some y.line = sym first ∙ same key uuid chunk ∙ second in
    let lines : x.line ≡ y.line = cc in
    ap (λ (k : List ℕ). record { key = k; line = x.line }) place.key ∙ ap (λ (l : ChunkLine). record { key = y.key; line = l }) lines

pub same_notes : (a b : List Note) → in_order a ≡ true → in_order b ≡ true → CountsAs a b → a ≡ b
same_notes [] [] p q same = refl
same_notes [] (y ∷ ys) p q same =
    let parts = and_parts (list_all (is_before y) ys) (in_order ys) q in
    let own = own_counts y.key y.line.uuid y.line.chunk y ys parts.0 (own_place y) in
    let bad : None ≡ Some y.line = same y.key y.line.uuid y.line.chunk ∙ own in
    absurd cc
same_notes (x ∷ xs) [] p q same =
    let parts = and_parts (list_all (is_before x) xs) (in_order xs) p in
    let own = own_counts x.key x.line.uuid x.line.chunk x xs parts.0 (own_place x) in
    let bad : Some x.line ≡ None = sym own ∙ same x.key x.line.uuid x.line.chunk in
    absurd cc
same_notes (x ∷ xs) (y ∷ ys) p q same =
    let first = and_parts (list_all (is_before x) xs) (in_order xs) p in
    let second = and_parts (list_all (is_before y) ys) (in_order ys) q in
    go (place_cmp x y) refl first.0 second.0 (λ e. same_notes xs ys first.1 second.1 (rest_counts x y xs ys first.0 second.0 e same))
  where
    go : (o : Ordering) → place_cmp x y ≡ o → list_all (is_before x) xs ≡ true → list_all (is_before y) ys ≡ true → (place_cmp x y ≡ Equal → xs ≡ ys) → x ∷ xs ≡ y ∷ ys
    go Less e all others rest = missing x y xs ys all others e (same x.key x.line.uuid x.line.chunk)
    go Equal e all others rest = ap (λ (n : Note). n ∷ xs) (same_first x y xs ys all others e same) ∙ ap (λ (ns : List Note). y ∷ ns) (rest e)
    go Greater e all others rest =
        let back : place_cmp y x ≡ Less = place_total.antisymm y x ∙ ap ordering_reverse e in
        missing y x ys xs others all back (sym (same y.key y.line.uuid y.line.chunk))

-- cutting stamps leaves them in order
cut_before : (x : Note) (xs : List Note) → list_all (is_before (cut_note x)) (map cut_note xs) ≡ list_all (is_before x) xs
cut_before x [] = refl
cut_before x (y ∷ ys) = ap (λ (b : Bool). is_before x y && b) (cut_before x ys)

pub cut_order : (xs : List Note) → in_order (map cut_note xs) ≡ in_order xs
cut_order [] = refl
cut_order (x ∷ xs) =
    ap (λ (b : Bool). b && in_order (map cut_note xs)) (cut_before x xs) ∙ ap (λ (b : Bool). list_all (is_before x) xs && b) (cut_order xs)
