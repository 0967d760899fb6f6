-- A note more counts as it should.
use Rattle.std.proofs.Common.{◌≡◌, ℕ, Bool, true, false, cond, List, [], ◌∷◌, ◌++◌, filter, fold, Option, Some, None, refl, sym, ap, ◌∙◌, arith}
use Rattle.std.specs.List.{list_all}
use Rattle.std.specs.Ordering.{is_lt}
use Rattle.std.specs.declared.cmp.Ordering.{Ordering}
use Rattle.std.specs.declared.cmp.Ordering.TheVariants.{Less, Equal, Greater}
use Rattle.std.proofs.lemmas.Bool.{and_parts}
use Rattle.std.proofs.lemmas.Bool.Decides.{nat_tests}
use Rattle.std.proofs.lemmas.Cmp.{alike_right}
use Rattle.task_text.specs.ChunkLog.NoteBooks.{in_order, inserted, is_before, is_no_later, is_of, newer, place_cmp, placed}
use Rattle.task_text.specs.declared.chunk_log.line.ChunkLine.{ChunkLine}
use Rattle.task_text.specs.declared.chunk_log.note.Note.{Note}
use Rattle.task_text.specs.declared.chunk_log.stamp.Stamp.{Stamp}
use Rattle.task_text.proofs.ChunkLogLemmas.Places.{is_of-same, place_total, same-is_of}

no_later-trans : (a b c : Stamp) → is_no_later a b ≡ true → is_no_later b c ≡ true → is_no_later a c ≡ true
no_later-trans a b c h k = grind (arith, nat_tests)

later-trans : (a b c : Stamp) → is_no_later a b ≡ false → is_no_later b c ≡ false → is_no_later a c ≡ false
later-trans a b c h k = grind (arith, nat_tests)

newer-yes : (line : Option ChunkLine) (x note : Note) → is_no_later x.line.stamp note.line.stamp ≡ true → newer (newer line x) note ≡ newer line note
newer-yes None x note h = rw h refl
newer-yes (Some line) x note h = go (is_no_later line.stamp x.line.stamp) refl
  where
    go : (b : Bool) → is_no_later line.stamp x.line.stamp ≡ b → newer (cond {A = Option ChunkLine} b (Some x.line) (Some line)) note ≡ newer (Some line) note
    go true e = let t : is_no_later line.stamp note.line.stamp ≡ true = no_later-trans line.stamp x.line.stamp note.line.stamp e h in rw (h, t) refl
    go false e = refl

newer-no : (line : Option ChunkLine) (x note : Note) → is_no_later x.line.stamp note.line.stamp ≡ false → newer (newer line x) note ≡ newer line x
newer-no None x note h = rw h refl
newer-no (Some line) x note h = go (is_no_later line.stamp x.line.stamp) refl
  where
    go : (b : Bool) → is_no_later line.stamp x.line.stamp ≡ b → newer (cond {A = Option ChunkLine} b (Some x.line) (Some line)) note ≡ cond {A = Option ChunkLine} b (Some x.line) (Some line)
    go true e = rw h refl
    go false e = let t : is_no_later line.stamp note.line.stamp ≡ false = later-trans line.stamp x.line.stamp note.line.stamp e h in rw t refl

-- what a test leaves of notes, going on from a line
abbrev go_on : (Note → Bool) → Option ChunkLine → List Note → Option ChunkLine
go_on test line notes = fold newer line (filter test notes)

step : (test : Note → Bool) (line : Option ChunkLine) (x : Note) (xs : List Note) → go_on test line (x ∷ xs) ≡ go_on test (cond (test x) (newer line x) line) xs
step test line x xs = go (test x)
  where
    go : (b : Bool) → fold newer line (cond b (x ∷ filter test xs) (filter test xs)) ≡ go_on test (cond b (newer line x) line) xs
    go true = refl
    go false = refl

pub pushed : (test : Note → Bool) (line : Option ChunkLine) (xs : List Note) (note : Note)
    → go_on test line (xs ++ note ∷ []) ≡ cond (test note) (newer (go_on test line xs) note) (go_on test line xs)
pushed test line [] note = step test line note [] ∙ go (test note)
  where
    go : (b : Bool) → cond b (newer line note) line ≡ cond b (newer line note) line
    go b = refl
pushed test line (x ∷ xs) note =
    let more = pushed test (cond (test x) (newer line x) line) xs note in
    step test line x (xs ++ note ∷ []) ∙ more ∙ ap (λ (l : Option ChunkLine). cond (test note) (newer l note) l) (sym (step test line x xs))

-- after a note that doesn't stand before another, none is of the other's place
none : (key uuid : List ℕ) (chunk : ℕ) (x note : Note) → is_of key uuid chunk note ≡ true → is_before x note ≡ false
    → (xs : List Note) → list_all (is_before x) xs ≡ true → (line : Option ChunkLine) → go_on (is_of key uuid chunk) line xs ≡ line
none key uuid chunk x note own after [] all line = refl
none key uuid chunk x note own after (y ∷ ys) all line =
    let parts = and_parts (is_before x y) (list_all (is_before x) ys) all in
    step (is_of key uuid chunk) line y ys ∙ go (is_of key uuid chunk y) refl parts.0 (none key uuid chunk x note own after ys parts.1 line)
  where
    go : (b : Bool) → is_of key uuid chunk y ≡ b → is_before x y ≡ true → go_on (is_of key uuid chunk) line ys ≡ line
        → go_on (is_of key uuid chunk) (cond b (newer line y) line) ys ≡ line
    go true e first rest =
        let tie : place_cmp y note ≡ Equal = same-is_of key uuid chunk y note e own in
        let alike : place_cmp x y ≡ place_cmp x note = alike_right place_total y note x tie in
        let same : is_before x y ≡ is_before x note = ap is_lt alike in
        absurd cc
    go false e first rest = rest

-- a note at the place of the first one
tied_counts : (key uuid : List ℕ) (chunk : ℕ) (note x : Note) (xs : List Note) → place_cmp x note ≡ Equal → list_all (is_before x) xs ≡ true
    → (line : Option ChunkLine) (b own : Bool) → is_no_later x.line.stamp note.line.stamp ≡ b → is_of key uuid chunk note ≡ own
    → go_on (is_of key uuid chunk) line (cond b note x ∷ xs) ≡ go_on (is_of key uuid chunk) line (x ∷ (xs ++ note ∷ []))
tied_counts key uuid chunk note x xs e all line b own later is =
    left b ∙ middle own b is later ∙ sym right
  where
    x_is : is_of key uuid chunk x ≡ own
    x_is = is_of-same key uuid chunk x note e ∙ is

    not_before : is_before x note ≡ false
    not_before = ap is_lt e

    left : (b : Bool) → go_on (is_of key uuid chunk) line (cond b note x ∷ xs) ≡ go_on (is_of key uuid chunk) (cond own (newer line (cond b note x)) line) xs
    left true = step (is_of key uuid chunk) line note xs ∙ ap (λ (t : Bool). go_on (is_of key uuid chunk) (cond t (newer line note) line) xs) is
    left false = step (is_of key uuid chunk) line x xs ∙ ap (λ (t : Bool). go_on (is_of key uuid chunk) (cond t (newer line x) line) xs) x_is

    right : go_on (is_of key uuid chunk) line (x ∷ (xs ++ note ∷ []))
        ≡ cond own (newer (go_on (is_of key uuid chunk) (cond own (newer line x) line) xs) note) (go_on (is_of key uuid chunk) (cond own (newer line x) line) xs)
    right =
        step (is_of key uuid chunk) line x (xs ++ note ∷ [])
        ∙ pushed (is_of key uuid chunk) (cond (is_of key uuid chunk x) (newer line x) line) xs note
        ∙ ap (λ (t : Bool). cond t (newer (go_on (is_of key uuid chunk) (cond (is_of key uuid chunk x) (newer line x) line) xs) note) (go_on (is_of key uuid chunk) (cond (is_of key uuid chunk x) (newer line x) line) xs)) is
        ∙ ap (λ (t : Bool). cond own (newer (go_on (is_of key uuid chunk) (cond t (newer line x) line) xs) note) (go_on (is_of key uuid chunk) (cond t (newer line x) line) xs)) x_is

    empty : is_of key uuid chunk note ≡ true → (l : Option ChunkLine) → go_on (is_of key uuid chunk) l xs ≡ l
    empty own_is l = none key uuid chunk x note own_is not_before xs all l

    middle : (own b : Bool) → is_of key uuid chunk note ≡ own → is_no_later x.line.stamp note.line.stamp ≡ b
        → go_on (is_of key uuid chunk) (cond own (newer line (cond b note x)) line) xs
        ≡ cond own (newer (go_on (is_of key uuid chunk) (cond own (newer line x) line) xs) note) (go_on (is_of key uuid chunk) (cond own (newer line x) line) xs)
    middle false b own_is later = refl
    middle true true own_is later =
        empty own_is (newer line note) ∙ sym (newer-yes line x note later) ∙ ap (λ (l : Option ChunkLine). newer l note) (sym (empty own_is (newer line x)))
    middle true false own_is later =
        empty own_is (newer line x) ∙ sym (newer-no line x note later) ∙ ap (λ (l : Option ChunkLine). newer l note) (sym (empty own_is (newer line x)))

pub inserted_counts : (key uuid : List ℕ) (chunk : ℕ) (note : Note) (notes : List Note) → in_order notes ≡ true → (line : Option ChunkLine)
    → go_on (is_of key uuid chunk) line (inserted note notes) ≡ go_on (is_of key uuid chunk) line (notes ++ note ∷ [])
inserted_counts key uuid chunk note [] order line = refl
inserted_counts key uuid chunk note (x ∷ xs) order line =
    let parts = and_parts (list_all (is_before x) xs) (in_order xs) order in
    go (place_cmp x note) refl parts.0 (inserted_counts key uuid chunk note xs parts.1 (cond (is_of key uuid chunk x) (newer line x) line))
  where
    greater : place_cmp x note ≡ Greater → list_all (is_before x) xs ≡ true → (own : Bool) → is_of key uuid chunk note ≡ own
        → go_on (is_of key uuid chunk) (cond own (newer line note) line) (x ∷ xs) ≡ cond own (newer (go_on (is_of key uuid chunk) line (x ∷ xs)) note) (go_on (is_of key uuid chunk) line (x ∷ xs))
    greater e all false is = refl
    greater e all true is =
        let all_none : (l : Option ChunkLine) → go_on (is_of key uuid chunk) l (x ∷ xs) ≡ l = λ l. step (is_of key uuid chunk) l x xs ∙ other (is_of key uuid chunk x) refl l in
        all_none (newer line note) ∙ ap (λ (l : Option ChunkLine). newer l note) (sym (all_none line))
      where
        other : (b : Bool) → is_of key uuid chunk x ≡ b → (l : Option ChunkLine) → go_on (is_of key uuid chunk) (cond b (newer l x) l) xs ≡ l
        other true f l = let tie : place_cmp x note ≡ Equal = same-is_of key uuid chunk x note f is in absurd cc
        other false f l = none key uuid chunk x note is (ap is_lt e) xs all l

    go : (o : Ordering) → place_cmp x note ≡ o → list_all (is_before x) xs ≡ true
        → go_on (is_of key uuid chunk) (cond (is_of key uuid chunk x) (newer line x) line) (inserted note xs) ≡ go_on (is_of key uuid chunk) (cond (is_of key uuid chunk x) (newer line x) line) (xs ++ note ∷ [])
        → go_on (is_of key uuid chunk) line (placed note x xs (inserted note xs) o) ≡ go_on (is_of key uuid chunk) line (x ∷ (xs ++ note ∷ []))
    go Less e all rest = step (is_of key uuid chunk) line x (inserted note xs) ∙ rest ∙ sym (step (is_of key uuid chunk) line x (xs ++ note ∷ []))
    go Equal e all rest = tied_counts key uuid chunk note x xs e all line (is_no_later x.line.stamp note.line.stamp) (is_of key uuid chunk note) refl refl
    go Greater e all rest =
        step (is_of key uuid chunk) line note (x ∷ xs) ∙ greater e all (is_of key uuid chunk note) refl ∙ sym (pushed (is_of key uuid chunk) line (x ∷ xs) note)
