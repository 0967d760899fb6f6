-- Lines lead to one reading at most.
use Rattle.std.proofs.Common.{◌≡◌, ℕ, ◌<◌, ◌≤◌, ◌^◌, Bool, true, false, inl, inr, get_or, arith, List, [], ◌∷◌, ◌++◌, Some, None, length, refl, sym, ap, subst, ◌∙◌}
use Rattle.std.specs.Prelude.{codes, decimal}
use Rattle.task_text.specs.TaskLines.{line_of, IsTask}
use Rattle.task_text.specs.declared.task.Task.{Task}
use Rattle.task_text.proofs.Spelled.{at_most_one}
use Rattle.journal_model.specs.declared.entry.Entry.{Entry}
use Rattle.journal_text.specs.Entries.Entries.{entry_line, entry_at, IsEntry}
use Rattle.journal_text.proofs.EntriesLemmas.EntryBack.{entry_back}
use Rattle.journal_text.specs.Lines.JournalTexts.{Told, worded, head, task_line, end_line}
use Rattle.journal_reader.specs.Readings.{Reading, Goes, Follows, after_stamp}
use Rattle.journal_reader.specs.Runs.{Reads}
use Rattle.journal_reader.specs.declared.place.Place.{Place}
use Rattle.journal_reader.specs.declared.place.Place.TheVariants.{Head, Uuid, Name, Gitdir, Stamp, Again, Given, Entries, Over, Refused}
use Rattle.journal_reader.proofs.Going.{task_begin, keep_begin, task_keep}
use Rattle.journal_reader.proofs.LineFields.{worded_same}
use Rattle.ann_key.specs.Numbers.{number_of}
use Rattle.task_text.proofs.ChunkLogLemmas.ReadBack.{number_back as number_read}

abbrev Same : Place → Place → Told → Told → Type 0
Same p q u v = (p ≡ q) × (u ≡ v)

-- both are the same as a third
third : {X : Type 0} (a b c : X) → a ≡ c → b ≡ c → a ≡ b
third a b c e k = e ∙ sym k

-- ---- the fields of a line

same_head : (a b : Bool) → head a ≡ head b → a ≡ b
same_head false false e = refl
same_head true true e = refl
same_head false true e = let last : 50 ≡ 49 = ap (λ (l : List ℕ). get_or l 14 0) e in absurd (omega (arith, last))
same_head true false e = let last : 49 ≡ 50 = ap (λ (l : List ℕ). get_or l 14 0) e in absurd (omega (arith, last))

same_number : (word : List ℕ) (m n : ℕ) → m < 2 ^ 64 → n < 2 ^ 64 → worded word (decimal m) ≡ worded word (decimal n) → m ≡ n
same_number word m n small less e =
    let both : Some m ≡ Some n = sym (number_read m small) ∙ ap number_of (worded_same word _ _ e) ∙ number_read n less in
    cc

few_small : (n : ℕ) → n ≤ 8 → n < 2 ^ 64
few_small n h = omega (arith, h)

same_task : (a b : Task) → IsTask a → IsTask b → task_line a ≡ task_line b → a ≡ b
same_task a b p q e =
    at_most_one (line_of a) a b (record { whole = refl; task_class = p }) (record { whole = worded_same (codes "task") (line_of a) (line_of b) e; task_class = q })

same_entry : (a b : Entry) → IsEntry a → IsEntry b → entry_line a ≡ entry_line b → a ≡ b
same_entry a b p q e = let both : Some a ≡ Some b = sym (entry_back a p) ∙ ap entry_at e ∙ entry_back b q in cc

-- the last line is no entry's
end_at : (n : ℕ) → entry_at (end_line n) ≡ None
end_at n = refl

no_end_entry : (n : ℕ) (e : Entry) → IsEntry e → end_line n ≡ entry_line e → ⊥
no_end_entry n e is same = let both : None ≡ Some e = sym (end_at n) ∙ ap entry_at same ∙ entry_back e is in absurd cc

-- ---- where one line leads

module _ (t : Told) (line : List ℕ) (p q : Place) (u v : Told) where
  head_same : Goes Head t line p u → Goes Head t line q v → Same p q u v
  head_same g h =
      let same : u.early ≡ v.early = same_head u.early v.early (sym g.0 ∙ h.0) in
      (third p q Uuid g.1 h.1, g.2 ∙ ap (λ (x : Bool). record t { early = x }) same ∙ sym h.2)

  uuid_same : Goes Uuid t line p u → Goes Uuid t line q v → Same p q u v
  uuid_same g h =
      let same : u.uuid ≡ v.uuid = worded_same (codes "uuid") u.uuid v.uuid (sym g.0 ∙ h.0) in
      (third p q Name g.2 h.2, g.3 ∙ ap (λ (x : List ℕ). record t { uuid = x }) same ∙ sym h.3)

  name_same : Goes Name t line p u → Goes Name t line q v → Same p q u v
  name_same g h =
      let same : u.name ≡ v.name = worded_same (codes "name") u.name v.name (sym g.0 ∙ h.0) in
      (third p q Gitdir g.2 h.2, g.3 ∙ ap (λ (x : List ℕ). record t { name = x }) same ∙ sym h.3)

  gitdir_same : Goes Gitdir t line p u → Goes Gitdir t line q v → Same p q u v
  gitdir_same g h =
      let same : u.gitdir ≡ v.gitdir = worded_same (codes "gitdir") u.gitdir v.gitdir (sym g.0 ∙ h.0) in
      (third p q Stamp g.2 h.2, g.3 ∙ ap (λ (x : List ℕ). record t { gitdir = x }) same ∙ sym h.3)

  stamp_same : Goes Stamp t line p u → Goes Stamp t line q v → Same p q u v
  stamp_same g h =
      let same : u.stamp ≡ v.stamp = same_number (codes "stamp") u.stamp v.stamp g.1 h.1 (sym g.0 ∙ h.0) in
      (third p q (after_stamp t.early) g.2 h.2, g.3 ∙ ap (λ (x : ℕ). record t { stamp = x }) same ∙ sym h.3)

  again_same : Goes Again t line p u → Goes Again t line q v → Same p q u v
  again_same g h =
      let same : u.again ≡ v.again = same_number (codes "again") u.again v.again (few_small u.again g.1) (few_small v.again h.1) (sym g.0 ∙ h.0) in
      (third p q Given g.2 h.2, g.3 ∙ ap (λ (x : ℕ). record t { again = x }) same ∙ sym h.3)

  given_same : Goes Given t line p u → Goes Given t line q v → Same p q u v
  given_same (inl (inl g)) (inl (inl h)) = (third p q Entries g.1 h.1, third u v t g.2 h.2)
  given_same (inl (inl g)) (inl (inr h)) = absurd (task_begin (line_of h.1.task) (sym h.1.spelled ∙ g.0))
  given_same (inl (inl g)) (inr h) = absurd (keep_begin h.1.text (sym h.1.spelled ∙ g.0))
  given_same (inl (inr g)) (inl (inl h)) = absurd (task_begin (line_of g.1.task) (sym g.1.spelled ∙ h.0))
  given_same (inl (inr g)) (inl (inr h)) =
      let same : g.1.task ≡ h.1.task = same_task g.1.task h.1.task g.1.class h.1.class (sym g.1.spelled ∙ h.1.spelled) in
      (third p q Given g.0 h.0, g.1.told ∙ ap (λ (x : Task). record t { tasks = t.tasks ++ x ∷ [] }) same ∙ sym h.1.told)
  given_same (inl (inr g)) (inr h) = absurd (task_keep (line_of g.1.task) h.1.text (sym g.1.spelled ∙ h.1.spelled))
  given_same (inr g) (inl (inl h)) = absurd (keep_begin g.1.text (sym g.1.spelled ∙ h.0))
  given_same (inr g) (inl (inr h)) = absurd (task_keep (line_of h.1.task) g.1.text (sym h.1.spelled ∙ g.1.spelled))
  given_same (inr g) (inr h) =
      let same : g.1.text ≡ h.1.text = worded_same (codes "keep") g.1.text h.1.text (sym g.1.spelled ∙ h.1.spelled) in
      (third p q Given g.0 h.0, g.1.told ∙ ap (λ (x : List ℕ). record t { kept = t.kept ++ x ∷ [] }) same ∙ sym h.1.told)

  entries_same : Goes Entries t line p u → Goes Entries t line q v → Same p q u v
  entries_same (inl g) (inl h) = (third p q Over g.1 h.1, third u v t g.2 h.2)
  entries_same (inl g) (inr h) = absurd (no_end_entry (length t.entries) h.1.entry h.1.class (sym g.0 ∙ h.1.spelled))
  entries_same (inr g) (inl h) = absurd (no_end_entry (length t.entries) g.1.entry g.1.class (sym h.0 ∙ g.1.spelled))
  entries_same (inr g) (inr h) =
      let same : g.1.entry ≡ h.1.entry = same_entry g.1.entry h.1.entry g.1.class h.1.class (sym g.1.spelled ∙ h.1.spelled) in
      (third p q Entries g.0 h.0, g.1.told ∙ ap (λ (x : Entry). record t { entries = t.entries ++ x ∷ [] }) same ∙ sym h.1.told)

one_way : (at : Place) (t : Told) (line : List ℕ) (p q : Place) (u v : Told) → Goes at t line p u → Goes at t line q v → Same p q u v
one_way Head t line p q u v g h = head_same t line p q u v g h
one_way Uuid t line p q u v g h = uuid_same t line p q u v g h
one_way Name t line p q u v g h = name_same t line p q u v g h
one_way Gitdir t line p q u v g h = gitdir_same t line p q u v g h
one_way Stamp t line p q u v g h = stamp_same t line p q u v g h
one_way Again t line p q u v g h = again_same t line p q u v g h
one_way Given t line p q u v g h = given_same t line p q u v g h
one_way Entries t line p q u v g h = entries_same t line p q u v g h
one_way Over t line p q u v g h = absurd g
one_way (Refused number) t line p q u v g h = absurd g

-- ---- where lines lead

same_next : (old : Reading) (line : List ℕ) (a b : Reading) → Follows old line a → Follows old line b → a ≡ b
same_next old line a b f g =
    let same = one_way old.place old.told line a.place b.place a.told b.told f.goes g.goes in
    let counted : a.taken ≡ b.taken = f.taken ∙ sym g.taken in
    ap (λ (p : Place). record { place = p; taken = a.taken; told = a.told }) same.0
    ∙ ap (λ (n : ℕ). record { place = b.place; taken = n; told = a.told }) counted
    ∙ ap (λ (t : Told). record { place = b.place; taken = b.taken; told = t }) same.1

pub reads_same : (old : Reading) (lines : List (List ℕ)) (a b : Reading) → Reads old lines a → Reads old lines b → a ≡ b
reads_same old [] a b r s = r ∙ sym s
reads_same old (line ∷ lines) a b r s =
    let same : r.0 ≡ s.0 = same_next old line r.0 s.0 r.1 s.1 in
    let P : Reading → Type 0 = λ x. Reads x lines b in
    reads_same r.0 lines a b r.2 (subst P (sym same) s.2)

-- what stands after some of the lines is read from where those led
pub reads_apart : (old : Reading) (xs ys : List (List ℕ)) (new : Reading) → Reads old (xs ++ ys) new → (between : Reading) × Reads old xs between × Reads between ys new
reads_apart old [] ys new r = (old, refl, r)
reads_apart old (x ∷ xs) ys new r = let rest = reads_apart r.0 xs ys new r.2 in (rest.0, (r.0, r.1, rest.1), rest.2)
