-- The text of a run that is cut off anywhere.
use Rattle.std.proofs.Common.{◌≡◌, ℕ, ◌+◌, Bool, true, false, not, List, [], ◌∷◌, ◌++◌, inl, inr, refl, sym, ap, subst, ◌∙◌, append_assoc, append-nil}
use Rattle.std.specs.Prelude.{◌&&◌, ◌||◌, ◌==◌}
use Rattle.std.specs.List.{list_all}
use Rattle.annex_model.specs.Lines.{Cut, text, has_newline}
use Rattle.journal_model.specs.declared.entry.Entry.{Entry}
use Rattle.journal_model.specs.declared.opening.Opening.{Opening}
use Rattle.journal_text.specs.Lines.JournalTexts.{Told, told_lines}
use Rattle.journal_reader.specs.Readings.{Reading, Goes, is_begun, start}
use Rattle.journal_reader.specs.RunTexts.{IsTold}
use Rattle.journal_reader.specs.Runs.{Reads, IsOpeningOf}
use Rattle.journal_reader.specs.declared.place.Place.{Place}
use Rattle.journal_reader.specs.declared.place.Place.TheVariants.{Head, Uuid, Name, Gitdir, Stamp, Again, Given, Entries, Over, Refused}
use Rattle.journal_reader.proofs.Agreeing.{reads_apart}
use Rattle.journal_reader.proofs.Complete.{whole_is_read}
use Rattle.audit_command.specs.SoFar.{HaveEnded, IsFirstPart}
use Rattle.audit_command.proofs.Cutting.{text_so_far, unbegun}

-- ---- the lines of a first part

has_none : (b : ℕ) (line : List ℕ) → has_newline (b ∷ line) ≡ false → has_newline line ≡ false
has_none b line h = go (b == 10) h
  where
    go : (s : Bool) → (s || has_newline line) ≡ false → has_newline line ≡ false
    go true k = absurd cc
    go false k = k

-- two texts that are one have one first line
same_first : (a b x y : List ℕ) → has_newline a ≡ false → has_newline b ≡ false → a ++ 10 ∷ x ≡ b ++ 10 ∷ y → (a ≡ b) × (x ≡ y)
same_first [] [] x y f g e = (refl, cc)
same_first [] (c ∷ b) x y f g e =
    absurd (let here : 10 ≡ c = cc in let bad : has_newline (10 ∷ b) ≡ false = subst (λ (d : ℕ). has_newline (d ∷ b) ≡ false) (sym here) g in let no : true ≡ false = bad in cc)
same_first (c ∷ a) [] x y f g e =
    absurd (let here : c ≡ 10 = cc in let bad : has_newline (10 ∷ a) ≡ false = subst (λ (d : ℕ). has_newline (d ∷ a) ≡ false) here f in let no : true ≡ false = bad in cc)
same_first (c ∷ a) (d ∷ b) x y f g e =
    let here : c ≡ d = cc in
    let rest : a ++ 10 ∷ x ≡ b ++ 10 ∷ y = cc in
    let same = same_first a b x y (has_none c a f) (has_none d b g) rest in
    (ap (λ (s : ℕ). s ∷ a) here ∙ ap (λ (s : List ℕ). d ∷ s) same.0, same.1)

are_apart : List (List ℕ) → Bool
are_apart lines = list_all (λ line. not (has_newline line)) lines

not_true : (b : Bool) → not b ≡ true → b ≡ false
not_true true h = absurd cc
not_true false h = refl

split_and : (a b : Bool) → (a && b) ≡ true → (a ≡ true) × (b ≡ true)
split_and true b h = (refl, h)
split_and false b h = absurd cc

nil_not_cons : (l x : List ℕ) → [] ≡ l ++ 10 ∷ x → ⊥
nil_not_cons [] x e = absurd cc
nil_not_cons (c ∷ l) x e = absurd cc

-- lines that have ended in a first part of a text are the first lines of all
first_lines_are : (all lines : List (List ℕ)) (rest more : List ℕ) → are_apart all ≡ true → are_apart lines ≡ true → text all ≡ (text lines ++ rest) ++ more
    → (tail : List (List ℕ)) × (all ≡ lines ++ tail)
unfolding are_apart
first_lines_are all [] rest more f g e = (all, refl)
first_lines_are [] (l ∷ lines) rest more f g e =
    absurd (nil_not_cons l ((text lines ++ rest) ++ more) (e ∙ ap (λ (bs : List ℕ). bs ++ more) (append_assoc l (10 ∷ text lines) rest) ∙ append_assoc l (10 ∷ (text lines ++ rest)) more))
first_lines_are (a ∷ all) (l ∷ lines) rest more f g e =
    let f2 = split_and (not (has_newline a)) (list_all (λ line. not (has_newline line)) all) f in
    let g2 = split_and (not (has_newline l)) (list_all (λ line. not (has_newline line)) lines) g in
    let same = same_first a l (text all) ((text lines ++ rest) ++ more) (not_true (has_newline a) f2.0) (not_true (has_newline l) g2.0)
    (e ∙ ap (λ (bs : List ℕ). bs ++ more) (append_assoc l (10 ∷ text lines) rest) ∙ append_assoc l (10 ∷ (text lines ++ rest)) more) in
    let tail = first_lines_are all lines rest more f2.1 g2.1 same.1 in
    (tail.0, ap (λ (x : List ℕ). x ∷ all) same.0 ∙ ap (λ (xs : List (List ℕ)). l ∷ xs) tail.1)

-- ---- what more lines tell

-- once `begin` was read, further lines tell more entries, and nothing else
record Grows (old new : Told) : Type 0 where
  more : List Entry
  grown : new ≡ record old { entries = old.entries ++ more }

grows_none : (t new : Told) → new ≡ t → Grows t new
grows_none t new e = record { more = []; grown = e ∙ sym (ap (λ (es : List Entry). record t { entries = es }) (append-nil t.entries)) }

grows_both : (a b c : Told) → Grows a b → Grows b c → Grows a c
grows_both a b c g h = record {
  more = g.more ++ h.more;
  grown =
      h.grown ∙ ap (λ (t : Told). record t { entries = t.entries ++ h.more }) g.grown
      ∙ ap (λ (es : List Entry). record a { entries = es }) (append_assoc a.entries g.more h.more);
}

grows_by : (p q : Place) (t new : Told) (line : List ℕ) → is_begun p ≡ true → Goes p t line q new → is_begun q ≡ true × Grows t new
grows_by Entries q t new line on (inl g) = (ap is_begun g.1, grows_none t new g.2)
grows_by Entries q t new line on (inr g) = (ap is_begun g.0, record { more = g.1.entry ∷ []; grown = g.1.told })
grows_by Over q t new line on g = absurd g
grows_by (Refused n) q t new line on g = absurd g
grows_by Head q t new line on g = absurd cc
grows_by Uuid q t new line on g = absurd cc
grows_by Name q t new line on g = absurd cc
grows_by Gitdir q t new line on g = absurd cc
grows_by Stamp q t new line on g = absurd cc
grows_by Again q t new line on g = absurd cc
grows_by Given q t new line on g = absurd cc

grows_along : (old new : Reading) (lines : List (List ℕ)) → is_begun old.place ≡ true → Reads old lines new → Grows old.told new.told
grows_along old new [] on reads = grows_none old.told new.told (ap (λ (r : Reading). r.told) reads)
grows_along old new (line ∷ lines) on reads =
    let next = reads.0 in
    let one = grows_by old.place next.place old.told next.told line on reads.1.goes in
    grows_both old.told next.told new.told one.1 (grows_along next new lines one.0 reads.2)

-- ---- a text that is cut off

opening_as : (o : Opening) (t : Told) (entries : List Entry) → IsOpeningOf o (record t { entries = entries }) → IsOpeningOf o t
opening_as o t entries is = record {
  uuid = is.uuid;
  name = is.name;
  gitdir = is.gitdir;
  stamp = is.stamp;
  again = is.again;
  tasks = is.tasks;
  registers = is.registers;
  notes = is.notes;
}

read_so_far : (t : Told) (lines : List (List ℕ)) (r : Reading) → Reads start lines r → (is_begun r.place ≡ true → Grows r.told t) → IsFirstPart t lines
read_so_far t lines r reads grows = go (is_begun r.place) refl
  where
    go : (b : Bool) → is_begun r.place ≡ b → IsFirstPart t lines
    go false off = inl (unbegun lines r reads off)
    go true on =
        let g = grows on in
        inr (
          r.told.entries,
          g.more,
          ap (λ (x : Told). x.entries) g.grown,
          λ opening is. text_so_far lines r opening r.told.entries reads on
              (opening_as opening r.told (r.told.entries ++ g.more) (subst (IsOpeningOf opening) g.grown is)) refl,
        )

pub cut_text : (t : Told) → IsTold t → (bytes more : List ℕ) (lines : List (List ℕ)) → Cut (bytes ++ more) (told_lines t) [] → HaveEnded bytes lines → IsFirstPart t lines
unfolding are_apart
cut_text t class bytes more lines all ended =
    let cut = ended.1 in
    let whole : text (told_lines t) ≡ bytes ++ more = sym (append-nil (text (told_lines t))) ∙ sym all.whole in
    let tail = first_lines_are (told_lines t) lines ended.0 more all.apart cut.apart (whole ∙ ap (λ (bs : List ℕ). bs ++ more) cut.whole) in
    let read = whole_is_read t class in
    let last : Reading = record { place = Over; taken = read.0; told = t } in
    let P : List (List ℕ) → Type 0 = λ l. Reads start l last in
    let parts = reads_apart start lines tail.0 last (subst P tail.1 read.1) in
    read_so_far t lines parts.0 parts.1 (λ on. grows_along parts.0 last tail.0 on parts.2)
