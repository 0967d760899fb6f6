-- Lines that were taken can be continued to a whole text, and a line that can't follow stands after them in none.
use Rattle.std.proofs.Common.{◌≡◌, ℕ, Bool, true, false, List, [], ◌∷◌, ◌++◌, map, length, ◌<◌, ◌^◌, refl, sym, ap, subst, ◌∙◌, arith, append_assoc}
use Rattle.std.specs.Prelude.{codes, IsTrue}
use Rattle.std.specs.Char.{encode_utf8}
use Rattle.std.specs.Str.{is_utf8, chars}
use Rattle.std.proofs.lemmas.List.{append-nil}
use Rattle.uuid.specs.Text.{by_index}
use Rattle.journal_model.specs.declared.entry.Entry.{Entry}
use Rattle.journal_text.specs.Entries.Entries.{entry_line}
use Rattle.journal_text.specs.Lines.JournalTexts.{Told, worded, head, begin, stamp_line, again_line, again_lines, task_line, keep_line, end_line, first_lines, last_lines, told_lines}
use Rattle.journal_reader.specs.RunTexts.{is_uuid, IsTold, IsAgain, Begins, NoneKept}
use Rattle.journal_reader.specs.Readings.{Reading, CannotGo, Follows, start, nothing_told}
use Rattle.journal_reader.specs.Runs.{Reads, lines_told, IsSoFar}
use Rattle.journal_reader.specs.declared.place.Place.{Place}
use Rattle.journal_reader.specs.declared.place.Place.TheVariants.{Head, Uuid, Name, Gitdir, Stamp, Again, Given, Entries, Over, Refused}
use Rattle.journal_reader.proofs.Agreeing.{reads_same, reads_apart}
use Rattle.journal_reader.proofs.Complete.{whole_is_read}
use Rattle.journal_reader.proofs.Sound.{all_told}
use Rattle.journal_model.specs.Legality.{is_text}

-- ---- what is taken begins a text

abbrev nil_uuid : List ℕ
nil_uuid = codes "00000000-0000-0000-0000-000000000000"

nil_right : IsTrue (is_uuid nil_uuid)
unfolding by_index
nil_right = refl

none_right : IsTrue (is_text [])
unfolding is_utf8 chars encode_utf8
none_right = refl

-- what is told of nothing but these
abbrev told_first : Bool → List ℕ → List ℕ → List ℕ → ℕ → Told
told_first early uuid name gitdir stamp = record nothing_told { early = early; uuid = uuid; name = name; gitdir = gitdir; stamp = stamp }

never_again : (early : Bool) → IsAgain early 0
never_again false = omega arith
never_again true = refl

first_is_told : (early : Bool) (uuid name gitdir : List ℕ) (stamp : ℕ) → IsTrue (is_uuid uuid) → IsTrue (is_text name) → IsTrue (is_text gitdir) → stamp < 2 ^ 64
    → IsTold (told_first early uuid name gitdir stamp)
first_is_told early uuid name gitdir stamp u n g s = record {
  uuid = u;
  name = n;
  gitdir = g;
  stamp = s;
  again = never_again early;
  few = omega arith;
  tasks = λ n task e. absurd cc;
  kept = NoneKept;
  entries = λ n entry e. absurd cc;
  stand = λ n entry e. absurd cc;
}

-- of nothing at all
nothing_is_told : (early : Bool) → IsTold (told_first early nil_uuid [] [] 0)
nothing_is_told early = first_is_told early nil_uuid [] [] 0 nil_right none_right none_right (omega arith)

-- a told text that begins with them
begins_with : (lines more : List (List ℕ)) (t : Told) → IsTold t → told_lines t ≡ lines ++ more → Begins lines
begins_with lines more t is e = (more, (t, is, e))

given_lines : (t : Told) → t.entries ≡ [] → told_lines t ≡ lines_told Given t ++ last_lines []
given_lines t none =
    ap (λ (es : List Entry). first_lines t ++ (map task_line t.tasks ++ (map keep_line t.kept ++ last_lines es))) none
    ∙ ap (λ (l : List (List ℕ)). first_lines t ++ l) (sym (append_assoc (map task_line t.tasks) (map keep_line t.kept) (last_lines [])))
    ∙ sym (append_assoc (first_lines t) (map task_line t.tasks ++ map keep_line t.kept) (last_lines []))

entries_lines : (t : Told) → told_lines t ≡ lines_told Entries t ++ end_line (length t.entries) ∷ []
entries_lines t =
    let last = end_line (length t.entries) ∷ [] in
    let middle = begin ∷ map entry_line t.entries in
    ap (λ (l : List (List ℕ)). first_lines t ++ (map task_line t.tasks ++ l)) (sym (append_assoc (map keep_line t.kept) middle last))
    ∙ ap (λ (l : List (List ℕ)). first_lines t ++ l) (sym (append_assoc (map task_line t.tasks) (map keep_line t.kept ++ middle) last))
    ∙ sym (append_assoc (first_lines t) (map task_line t.tasks ++ (map keep_line t.kept ++ middle)) last)

can_go_on : (at : Place) (t : Told) → IsSoFar at t → Begins (lines_told at t)
can_go_on Head t s = let n = told_first false nil_uuid [] [] 0 in begins_with [] (told_lines n) n (nothing_is_told false) refl
can_go_on Uuid t s =
    let n = told_first t.early nil_uuid [] [] 0 in
    begins_with (lines_told Uuid t) (worded (codes "uuid") nil_uuid ∷ worded (codes "name") [] ∷ worded (codes "gitdir") [] ∷ stamp_line 0 ∷ again_lines t.early 0 ++ last_lines []) n
    (nothing_is_told t.early) refl
can_go_on Name t s =
    let n = told_first t.early t.uuid [] [] 0 in
    begins_with (lines_told Name t) (worded (codes "name") [] ∷ worded (codes "gitdir") [] ∷ stamp_line 0 ∷ again_lines t.early 0 ++ last_lines []) n
    (first_is_told t.early t.uuid [] [] 0 s.0 none_right none_right (omega arith)) refl
can_go_on Gitdir t s =
    let n = told_first t.early t.uuid t.name [] 0 in
    begins_with (lines_told Gitdir t) (worded (codes "gitdir") [] ∷ stamp_line 0 ∷ again_lines t.early 0 ++ last_lines []) n
    (first_is_told t.early t.uuid t.name [] 0 s.0 s.1 none_right (omega arith)) refl
can_go_on Stamp t s =
    let n = told_first t.early t.uuid t.name t.gitdir 0 in
    begins_with (lines_told Stamp t) (stamp_line 0 ∷ again_lines t.early 0 ++ last_lines []) n (first_is_told t.early t.uuid t.name t.gitdir 0 s.0 s.1 s.2 (omega arith)) refl
can_go_on Again t s =
    let n = told_first false t.uuid t.name t.gitdir t.stamp in
    let rest = worded (codes "uuid") t.uuid ∷ worded (codes "name") t.name ∷ worded (codes "gitdir") t.gitdir ∷ stamp_line t.stamp ∷ again_line 0 ∷ last_lines [] in
    let new : t.early ≡ false = ap (λ (u : Told). u.early) s.4 in
    begins_with (lines_told Again t) (again_line 0 ∷ last_lines []) n (first_is_told false t.uuid t.name t.gitdir t.stamp s.0 s.1 s.2 s.3)
    (ap (λ (b : Bool). head b ∷ rest) (sym new))
can_go_on Given t s = begins_with (lines_told Given t) (last_lines []) t s.0 (given_lines t s.1)
can_go_on Entries t s = begins_with (lines_told Entries t) (end_line (length t.entries) ∷ []) t s (entries_lines t)
can_go_on Over t s = begins_with (told_lines t) [] t s (sym (append-nil (told_lines t)))
can_go_on (Refused number) t s = let n = told_first false nil_uuid [] [] 0 in begins_with [] (told_lines n) n (nothing_is_told false) refl

pub taken_begins : (lines : List (List ℕ)) (r : Reading) → Reads start lines r → Begins lines
taken_begins lines r reads =
    let t = all_told lines r reads in
    subst Begins t.lines (can_go_on r.place r.told t.so_far)

-- ---- what is refused is in no text

pub refused_is_in_none : (lines : List (List ℕ)) (r : Reading) (line : List ℕ) → Reads start lines r → CannotGo r.place r.told line → Begins (lines ++ line ∷ []) → ⊥
refused_is_in_none lines r line reads cannot begins =
    let more = begins.0 in
    let t = begins.1.0 in
    let whole = whole_is_read t begins.1.1 in
    let last : Reading = record { place = Over; taken = whole.0; told = t } in
    let P : List (List ℕ) → Type 0 = λ l. Reads start l last in
    let parts = reads_apart start lines (line ∷ more) last (subst P (begins.1.2 ∙ append_assoc lines (line ∷ []) more) whole.1) in
    let same : parts.0 ≡ r = reads_same start lines parts.0 r parts.1 reads in
    let Q : Reading → Type 0 = λ x. (next : Reading) × Follows x line next × Reads next more last in
    let led = subst Q same parts.2 in
    cannot led.0.place led.0.told led.1.goes
