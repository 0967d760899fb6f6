-- Of a run that began with a book, each layout that is told is of chunks that hold something.
use Rattle.std.proofs.Common.{◌≡◌, ◌∙◌, ℕ, suc, ◌+◌, List, [], ◌∷◌, refl, ap, arith, Bool, true, false, not, cond, ◌==◌, Option, Some, None}
use Rattle.std.specs.Prelude.{◌&&◌, nat_lt, insert, filter, fold, map, option_map, All}
use Rattle.std.specs.List.{list_all, cons_option, position_or_len}
use Rattle.std.specs.declared.cmp.Ordering.{Ordering}
use Rattle.std.specs.declared.cmp.Ordering.TheVariants.{Less, Equal, Greater}
use Rattle.std.proofs.lemmas.Bool.Decides.{nat_tests}
use Rattle.std.proofs.lemmas.List.Elements.{All-head, All-tail}
use Rattle.task_text.specs.ChunkLog.NoteBooks.{IsNote, inserted, place_cmp, placed, is_no_later}
use Rattle.task_text.specs.ChunkLog.Current.{in_rank, is_current, layout_of, layouts_of, ranked, standing_of, stands_before}
use Rattle.task_text.specs.declared.chunk_log.note.Note.{Note as NoteLine}
use Rattle.task_text.specs.declared.chunk_log.standing.Standing.{Standing}
use Rattle.task_text.specs.declared.task.Task.{Task}
use Rattle.journal_model.specs.declared.entry.What.{What}
use Rattle.journal_model.specs.declared.entry.What.TheVariants.{Note}
use Rattle.journal_model.specs.declared.entry.Entry.{Entry}
use Rattle.journal_model.specs.declared.opening.Opening.{Opening}
use Rattle.journal_model.specs.Due.{due_after}
use Rattle.journal_model.specs.Journal.{each_of}
use Rattle.journal_model.specs.Legality.{Legal, has_open_job, is_claimed_by, may_come, may_note, task_of}
use Rattle.journal_model.specs.Notes.{noted, note_of, with_notes}
use Rattle.journal_model.proofs.Growing.{Legal-induction}
use Rattle.journal_model.proofs.Holding.{due_names}
use Rattle.journal_model.proofs.Looks.{each_of-append}
use Rattle.journal_model.proofs.Testing.{all-join}
use Rattle.host_core.specs.Books.{notes_after}
use Rattle.task_model.specs.Askers.{are_layouts}
use Rattle.crew_work.specs.Worker.KnownLayouts.{is_sized, known_layouts, layouts_at}
use Rattle.std.proofs.lemmas.Bool.{and_parts as both}

-- ---- a number that isn't 0

over_zero : (n : ℕ) → nat_lt 0 n ≡ true → not (n == 0) ≡ true
over_zero n h = grind (arith, nat_tests)

pub notes_sized : (notes : List NoteLine) → All IsNote notes → list_all is_sized notes ≡ true
notes_sized [] h = refl
notes_sized (note ∷ notes) h =
    let first : IsNote note = All-head IsNote note notes h in
    let sized : not (note.line.chunk == 0) ≡ true = over_zero note.line.chunk (let some = first.line.chunk in grind (arith, nat_tests)) in
    rw (sized, notes_sized notes (All-tail IsNote note notes h)) refl

-- ---- a book with more notes

inserted_sized : (note : NoteLine) (book : List NoteLine) → is_sized note ≡ true → list_all is_sized book ≡ true → list_all is_sized (inserted note book) ≡ true
inserted_sized note [] one all = rw one refl
inserted_sized note (x ∷ xs) one all =
    let s = both (is_sized x) (list_all is_sized xs) all in
    go (place_cmp x note) s.0 s.1 (inserted_sized note xs one s.1)
  where
    either : (b : Bool) → is_sized x ≡ true → is_sized (cond b note x) ≡ true
    either true h = one
    either false h = h

    go : (p : Ordering) → is_sized x ≡ true → list_all is_sized xs ≡ true → list_all is_sized (inserted note xs) ≡ true → list_all is_sized (placed note x xs (inserted note xs) p) ≡ true
    go Less first rest more = rw (first, more) refl
    go Equal first rest more = rw (either (is_no_later x.line.stamp note.line.stamp) first, rest) refl
    go Greater first rest more = rw (one, first, rest) refl

with_notes_sized : (book notes : List NoteLine) → list_all is_sized book ≡ true → list_all is_sized notes ≡ true → list_all is_sized (with_notes book notes) ≡ true
with_notes_sized book [] h k = h
with_notes_sized book (note ∷ notes) h k =
    let s = both (is_sized note) (list_all is_sized notes) k in
    with_notes_sized (inserted note book) notes (inserted_sized note book s.0 h) s.1

-- ---- what a legal journal notes

abbrev noted_sized : Opening → List Entry → Type 0
noted_sized o journal = list_all is_sized (each_of (noted o) journal) ≡ true

one_sized : (o : Opening) (past : List Entry) (by : ℕ) (w : What) → may_come o past by w ≡ true → list_all is_sized (cons_option (noted o w) []) ≡ true
one_sized o past by (Note u chunk count) m = by_task (task_of o u)
  where
    size : not (chunk == 0) ≡ true
    size = over_zero chunk (both (is_claimed_by past by u && may_note (task_of o u) && not (has_open_job past u)) (nat_lt 0 chunk) m).1

    by_task : (q : Option Task) → list_all is_sized (cons_option (option_map (note_of o chunk count) q) []) ≡ true
    by_task None = refl
    by_task (Some task) = rw size refl
one_sized o past by w m = refl

all_sized : (o : Opening) (journal : List Entry) → Legal o journal → noted_sized o journal
all_sized o journal l = Legal-induction o (noted_sized o) refl
    (λ past e legal before may.
    (let due : each_of (noted o) (due_after o past e) ≡ [] = due_names (noted o) (λ c j v. refl) (λ c why. refl) (λ c j x. refl) o past e.by e.what in
    ap (list_all is_sized) (each_of-append (noted o) past (e ∷ due_after o past e))
    ∙ all-join is_sized (each_of (noted o) past) (cons_option (noted o e.what) (each_of (noted o) (due_after o past e))) before
    (ap (λ (l : List NoteLine). list_all is_sized (cons_option (noted o e.what) l)) due ∙ one_sized o past e.by e.what may))) journal l

-- ---- the layouts of a book

abbrev stands_sized : Standing → Bool
stands_sized s = not (s.chunk == 0)

ranked_sized : (s : Standing) (others : List Standing) → stands_sized s ≡ true → list_all stands_sized others ≡ true → list_all stands_sized (ranked s others) ≡ true
ranked_sized s [] h k = rw h refl
ranked_sized s (x ∷ xs) h k =
    let p = both (stands_sized x) (list_all stands_sized xs) k in
    go (stands_before s x) p.0 p.1 (ranked_sized s xs h p.1)
  where
    at : ℕ
    at = position_or_len (stands_before s) xs

    one_suc : (n : ℕ) → 1 + n ≡ suc n
    one_suc n = omega arith

    go : (b : Bool) → stands_sized x ≡ true → list_all stands_sized xs ≡ true → list_all stands_sized (insert xs at s) ≡ true → list_all stands_sized (insert (x ∷ xs) (cond (not b) (1 + at) 0) s) ≡ true
    go true first rest more = rw (h, first, rest) refl
    go false first rest more = rw (one_suc, first, more) refl

rank_sized : (others ss : List Standing) → list_all stands_sized others ≡ true → list_all stands_sized ss ≡ true → list_all stands_sized (fold (λ l s. ranked s l) others ss) ≡ true
rank_sized others [] h k = h
rank_sized others (s ∷ ss) h k =
    let p = both (stands_sized s) (list_all stands_sized ss) k in
    rank_sized (ranked s others) ss (ranked_sized s others p.0 h) p.1

standings_sized : (key uuid : List ℕ) (notes : List NoteLine) → list_all is_sized notes ≡ true → list_all stands_sized (map standing_of (filter (is_current key uuid) notes)) ≡ true
standings_sized key uuid [] h = refl
standings_sized key uuid (note ∷ notes) h =
    let p = both (is_sized note) (list_all is_sized notes) h in
    go (is_current key uuid note) p.0 (standings_sized key uuid notes p.1)
  where
    go : (b : Bool) → is_sized note ≡ true → list_all stands_sized (map standing_of (filter (is_current key uuid) notes)) ≡ true
        → list_all stands_sized (map standing_of (cond b (note ∷ filter (is_current key uuid) notes) (filter (is_current key uuid) notes))) ≡ true
    go true first rest = rw (first, rest) refl
    go false first rest = rest

pairs_sized : (ss : List Standing) → list_all stands_sized ss ≡ true → are_layouts (map layout_of ss) ≡ true
pairs_sized [] h = refl
pairs_sized (s ∷ ss) h =
    let p = both (stands_sized s) (list_all stands_sized ss) h in
    rw (p.0, pairs_sized ss p.1) refl

layouts_sized : (notes : List NoteLine) (key uuid : List ℕ) → list_all is_sized notes ≡ true → are_layouts (layouts_of notes key uuid) ≡ true
unfolding layouts_of
layouts_sized notes key uuid h =
    pairs_sized (in_rank (map standing_of (filter (is_current key uuid) notes))) (rank_sized [] (map standing_of (filter (is_current key uuid) notes)) refl (standings_sized key uuid notes h))

pub known_sized : (o : Opening) (journal : List Entry) (t : ℕ) → list_all is_sized o.notes ≡ true → Legal o journal → are_layouts (known_layouts o journal t) ≡ true
known_sized o journal t h l = by_task (task_of o t)
  where
    by_task : (q : Option Task) → are_layouts (layouts_at o journal q) ≡ true
    by_task None = refl
    by_task (Some task) = layouts_sized (notes_after o journal) task.key o.identity.uuid (with_notes_sized o.notes (each_of (noted o) journal) h (all_sized o journal l))
