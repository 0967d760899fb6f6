-- Books that are given notes count as the list of all notes does.
use Rattle.std.proofs.Common.{◌≡◌, ℕ, ◌*◌, ◌%◌, ◌<◌, List, [], ◌∷◌, ◌++◌, refl, sym, ap, ◌∙◌, append_assoc, append-nil, subst, Bool, true, false, cond, bytes_eq, filter, fold, Option, Some, None, arith}
use Rattle.std.specs.List.{list_all}
use Rattle.std.specs.Ordering.{is_lt, ordering_reverse}
use Rattle.std.specs.declared.cmp.Ordering.{Ordering}
use Rattle.std.specs.declared.cmp.Ordering.TheVariants.{Less, Equal, Greater}
use Rattle.std.proofs.lemmas.Slice.Eq.{bytes_eq-Decides}
use Rattle.task_text.specs.ChunkLog.ChunkLines.{IsWritable, IsWrittenUuid}
use Rattle.task_text.specs.ChunkLog.NoteBooks.{counting, in_order, inserted, is_before, is_of, newer, place_cmp}
use Rattle.task_text.specs.ChunkLog.Current.{IsCurrent}
use Rattle.task_text.specs.declared.chunk_log.note.Note.{Note}
use Rattle.task_text.specs.declared.chunk_log.line.ChunkLine.{ChunkLine}
use Rattle.task_text.proofs.ChunkLogLemmas.Counting.{inserted_counts, pushed}
use Rattle.task_text.proofs.ChunkLogLemmas.InOrder.{in_order-inserted}
use Rattle.task_text.proofs.ChunkLogLemmas.Places.{place_total, same_place, is_of-same, same-is_of}
use Rattle.task_text.specs.declared.task.Task.{Task}
use Rattle.journal_model.specs.declared.entry.What.{What}
use Rattle.journal_model.specs.declared.entry.What.TheVariants.{Lead}
use Rattle.journal_model.specs.declared.entry.Entry.{Entry}
use Rattle.journal_model.specs.declared.opening.Opening.{Opening}
use Rattle.journal_model.specs.Journal.{each_of}
use Rattle.journal_model.specs.Due.{due_after}
use Rattle.journal_model.specs.Legality.{Follows}
use Rattle.journal_model.specs.Notes.{note_of, noted, notes_at, with_notes, AreCurrentAt}
use Rattle.journal_model.proofs.Growing.{one_ask}
use Rattle.journal_model.proofs.Looks.{entry, each_of-append}
use Rattle.journal_model.proofs.Holding.{due_names}
use Rattle.ann_key.proofs.Orderings.{less}
use Rattle.std.proofs.lemmas.Bool.{and_parts as both}
use Rattle.ann_key.proofs.Numbers.{same_number as same}

pub notes_grow : (o : Opening) (past more : List Entry) → notes_at o (past ++ more) ≡ notes_at o past ++ each_of (noted o) more
notes_grow o past more =
    ap (λ (ns : List Note). o.notes ++ ns) (each_of-append (noted o) past more) ∙ sym (append_assoc o.notes (each_of (noted o) past) (each_of (noted o) more))

pub due_notes : (o : Opening) (past : List Entry) (e : Entry) → each_of (noted o) (due_after o past e) ≡ []
due_notes o past e = due_names (noted o) (λ c j v. refl) (λ c why. refl) (λ c j l. refl) o past e.by e.what

-- the first entry of a group alone may note something
pub group_notes : (o : Opening) (past : List Entry) (e : Entry) (rest : List Entry) → Follows o past e rest → each_of (noted o) rest ≡ []
group_notes o past e rest f = by_kind e.by e.what f
  where
    by_kind : (by : ℕ) (w : What) → Follows o past (entry by w) rest → each_of (noted o) rest ≡ []
    by_kind by (Lead child job name) f = one_ask o past (λ (xs : List Entry). each_of (noted o) xs ≡ []) by child job name rest f (λ b c j t line. refl)
    by_kind by w f = subst (λ (xs : List Entry). each_of (noted o) xs ≡ []) (sym f) (due_notes o past (entry by w))

-- what counts in two lists goes on to count in both with the same notes after them
counting-append : (xs ys notes : List Note) (key uuid : List ℕ) (chunk : ℕ) → counting xs key uuid chunk ≡ counting ys key uuid chunk
    → counting (xs ++ notes) key uuid chunk ≡ counting (ys ++ notes) key uuid chunk
counting-append xs ys [] key uuid chunk h =
    ap (λ (l : List Note). counting l key uuid chunk) (append-nil xs) ∙ h ∙ ap (λ (l : List Note). counting l key uuid chunk) (sym (append-nil ys))
counting-append xs ys (n ∷ ns) key uuid chunk h =
    ap (λ (l : List Note). counting l key uuid chunk) (sym (append_assoc xs (n ∷ []) ns))
    ∙ counting-append (xs ++ n ∷ []) (ys ++ n ∷ []) ns key uuid chunk (one h)
    ∙ ap (λ (l : List Note). counting l key uuid chunk) (append_assoc ys (n ∷ []) ns)
  where
    one : counting xs key uuid chunk ≡ counting ys key uuid chunk → counting (xs ++ n ∷ []) key uuid chunk ≡ counting (ys ++ n ∷ []) key uuid chunk
    one h =
        pushed (is_of key uuid chunk) None xs n
        ∙ ap (λ (l : Option ChunkLine). cond (is_of key uuid chunk n) (newer l n) l) h
        ∙ sym (pushed (is_of key uuid chunk) None ys n)

pub with_notes-order : (book notes : List Note) → in_order book ≡ true → in_order (with_notes book notes) ≡ true
with_notes-order book [] h = h
with_notes-order book (n ∷ ns) h = with_notes-order (inserted n book) ns (in_order-inserted n book h)

pub with_notes-counts : (book notes : List Note) → in_order book ≡ true → (key uuid : List ℕ) (chunk : ℕ)
    → counting (with_notes book notes) key uuid chunk ≡ counting (book ++ notes) key uuid chunk
with_notes-counts book [] h key uuid chunk = ap (λ (l : List Note). counting l key uuid chunk) (sym (append-nil book))
with_notes-counts book (n ∷ ns) h key uuid chunk =
    with_notes-counts (inserted n book) ns (in_order-inserted n book h) key uuid chunk
    ∙ counting-append (inserted n book) (book ++ n ∷ []) ns key uuid chunk (inserted_counts key uuid chunk n book h None)
    ∙ ap (λ (l : List Note). counting l key uuid chunk) (append_assoc book (n ∷ []) ns)

pub current_of_book : (o : Opening) (past : List Entry) (key : List ℕ) (layouts : List (ℕ × ℕ)) → in_order o.notes ≡ true
    → IsCurrent (with_notes o.notes (each_of (noted o) past)) key o.identity.uuid layouts → AreCurrentAt o past key layouts
current_of_book o past key layouts order current = record {
  book = with_notes o.notes (each_of (noted o) past);
  order = with_notes-order o.notes (each_of (noted o) past) order;
  counts = with_notes-counts o.notes (each_of (noted o) past) order;
  current = current;
}

pub writable : (o : Opening) (task : Task) (chunk count : ℕ) → IsWrittenUuid o.identity.uuid → 0 < chunk → IsWritable (note_of o chunk count task).line
writable o task chunk count uuid size = record { uuid = uuid; chunk = size; nanos = small o.stamp }
  where
    small : (n : ℕ) → n % 1000000 * 1000 < 1000000000
    small n = omega arith

-- ---- one book

pub own_place : (x : Note) → is_of x.key x.line.uuid x.line.chunk x ≡ true
own_place x =
    let key : bytes_eq x.key x.key ≡ true = (bytes_eq-Decides x.key x.key).1 refl in
    let uuid : bytes_eq x.line.uuid x.line.uuid ≡ true = (bytes_eq-Decides x.line.uuid x.line.uuid).1 refl in
    rw (key, uuid, same x.line.chunk) refl

-- none of the notes that stand after one is of its place
behind_none : (x : Note) (xs : List Note) → list_all (is_before x) xs ≡ true → (key uuid : List ℕ) (chunk : ℕ) → is_of key uuid chunk x ≡ true
    → counting xs key uuid chunk ≡ None
behind_none x [] all key uuid chunk own = refl
behind_none x (y ∷ ys) all key uuid chunk own =
    let parts = both (is_before x y) (list_all (is_before x) ys) all in
    go (is_of key uuid chunk y) refl parts.0 (behind_none x ys parts.1 key uuid chunk own)
  where
    go : (b : Bool) → is_of key uuid chunk y ≡ b → is_before x y ≡ true → counting ys key uuid chunk ≡ None
        → fold newer None (cond b (y ∷ filter (is_of key uuid chunk) ys) (filter (is_of key uuid chunk) ys)) ≡ None
    go true e before rest =
        let tie : is_before x y ≡ false = ap is_lt (same-is_of key uuid chunk x y own e) in
        absurd (let bad : true ≡ false = sym before ∙ tie in cc)
    go false e before rest = rest

first_counts : (x : Note) (xs : List Note) → list_all (is_before x) xs ≡ true → (key uuid : List ℕ) (chunk : ℕ) → is_of key uuid chunk x ≡ true
    → counting (x ∷ xs) key uuid chunk ≡ Some x.line
first_counts x xs all key uuid chunk own = rw own (from_line xs all)
  where
    from_line : (ys : List Note) → list_all (is_before x) ys ≡ true → fold newer (Some x.line) (filter (is_of key uuid chunk) ys) ≡ Some x.line
    from_line [] all = refl
    from_line (y ∷ ys) all = go (is_of key uuid chunk y) refl (both (is_before x y) (list_all (is_before x) ys) all).0 (from_line ys (both (is_before x y) (list_all (is_before x) ys) all).1)
      where
        go : (b : Bool) → is_of key uuid chunk y ≡ b → is_before x y ≡ true → fold newer (Some x.line) (filter (is_of key uuid chunk) ys) ≡ Some x.line
            → fold newer (Some x.line) (cond b (y ∷ filter (is_of key uuid chunk) ys) (filter (is_of key uuid chunk) ys)) ≡ Some x.line
        go true e before rest =
            let tie : is_before x y ≡ false = ap is_lt (same-is_of key uuid chunk x y own e) in
            absurd (let bad : true ≡ false = sym before ∙ tie in cc)
        go false e before rest = rest

pub farther : (x y : Note) (ys : List Note) → place_cmp x y ≡ Less → list_all (is_before y) ys ≡ true → list_all (is_before x) ys ≡ true
farther x y [] e all = refl
farther x y (z ∷ zs) e all =
    let parts = both (is_before y z) (list_all (is_before y) zs) all in
    rw (ap is_lt (place_total.trans x y z e (less (place_cmp y z) parts.0)), farther x y zs e parts.1) refl

abbrev Alike : List Note → List Note → Type 0
Alike xs ys = (key uuid : List ℕ) (chunk : ℕ) → counting xs key uuid chunk ≡ counting ys key uuid chunk

-- a note whose place another book has not counts in one book alone
lacking : {A : Type 0} (x : Note) (xs ys : List Note) → list_all (is_before x) xs ≡ true → list_all (is_before x) ys ≡ true → Alike (x ∷ xs) ys → A
lacking x xs ys mine theirs alike =
    let here = first_counts x xs mine x.key x.line.uuid x.line.chunk (own_place x) in
    let there = behind_none x ys theirs x.key x.line.uuid x.line.chunk (own_place x) in
    absurd (let bad : Some x.line ≡ None = sym here ∙ alike x.key x.line.uuid x.line.chunk ∙ there in cc)

tails_alike : (x : Note) (xs ys : List Note) → list_all (is_before x) xs ≡ true → list_all (is_before x) ys ≡ true → Alike (x ∷ xs) (x ∷ ys) → Alike xs ys
tails_alike x xs ys mine theirs alike key uuid chunk = go (is_of key uuid chunk x) refl (alike key uuid chunk)
  where
    go : (b : Bool) → is_of key uuid chunk x ≡ b
        → fold newer None (cond b (x ∷ filter (is_of key uuid chunk) xs) (filter (is_of key uuid chunk) xs)) ≡ fold newer None (cond b (x ∷ filter (is_of key uuid chunk) ys) (filter (is_of key uuid chunk) ys))
        → counting xs key uuid chunk ≡ counting ys key uuid chunk
    go true own e = behind_none x xs mine key uuid chunk own ∙ sym (behind_none x ys theirs key uuid chunk own)
    go false own e = e

-- books in order in which the same lines count are one
pub one_book : (xs ys : List Note) → in_order xs ≡ true → in_order ys ≡ true → Alike xs ys → xs ≡ ys
one_book [] [] p q alike = refl
one_book [] (y ∷ ys) p q alike = lacking y ys [] (both (list_all (is_before y) ys) (in_order ys) q).0 refl (λ key uuid chunk. sym (alike key uuid chunk))
one_book (x ∷ xs) [] p q alike = lacking x xs [] (both (list_all (is_before x) xs) (in_order xs) p).0 refl alike
one_book (x ∷ xs) (y ∷ ys) p q alike = go (place_cmp x y) refl (one_book xs ys mine.1 theirs.1)
  where
    mine : (list_all (is_before x) xs ≡ true) × (in_order xs ≡ true)
    mine = both (list_all (is_before x) xs) (in_order xs) p

    theirs : (list_all (is_before y) ys ≡ true) × (in_order ys ≡ true)
    theirs = both (list_all (is_before y) ys) (in_order ys) q

    go : (c : Ordering) → place_cmp x y ≡ c → (Alike xs ys → xs ≡ ys) → x ∷ xs ≡ y ∷ ys
    go Less e more = lacking x xs (y ∷ ys) mine.0 (rw (ap is_lt e, farther x y ys e theirs.0) refl) alike
    go Greater e more =
        let back : place_cmp y x ≡ Less = place_total.antisymm y x ∙ ap ordering_reverse e in
        lacking y ys (x ∷ xs) theirs.0 (rw (ap is_lt back, farther y x xs back mine.0) refl) (λ key uuid chunk. sym (alike key uuid chunk))
    go Equal e more =
        let place = same_place x y e in
        let own : is_of x.key x.line.uuid x.line.chunk y ≡ true = sym (is_of-same x.key x.line.uuid x.line.chunk x y e) ∙ own_place x in
        let lines : Some x.line ≡ Some y.line =
        sym (first_counts x xs mine.0 x.key x.line.uuid x.line.chunk (own_place x)) ∙ alike x.key x.line.uuid x.line.chunk
        ∙ first_counts y ys theirs.0 x.key x.line.uuid x.line.chunk own in
        let line : x.line ≡ y.line = cc lines in
        let notes : x ≡ y = ap (λ (k : List ℕ). record { key = k; line = x.line }) place.key ∙ ap (λ (l : ChunkLine). record { key = y.key; line = l }) line in
        let before_ys : list_all (is_before x) ys ≡ true = subst (λ (z : Note). list_all (is_before z) ys ≡ true) (sym notes) theirs.0 in
        let rest = more (tails_alike x xs ys mine.0 before_ys (subst (λ (z : Note). Alike (x ∷ xs) (z ∷ ys)) (sym notes) alike)) in
        ap (λ (z : Note). z ∷ xs) notes ∙ ap (λ (zs : List Note). y ∷ zs) rest
