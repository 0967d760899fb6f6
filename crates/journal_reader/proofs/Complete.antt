-- Each whole text is taken to its end.
use Rattle.std.proofs.Common.{◌≡◌, ℕ, suc, ◌+◌, ◌<◌, ◌≤◌, Bool, true, false, inl, inr, List, [], ◌∷◌, ◌++◌, map, length, Some, refl, sym, ap, subst, arith, append_assoc, length-append}
use Rattle.std.specs.Prelude.{codes, IsTrue}
use Rattle.std.specs.List.{slice_get}
use Rattle.std.proofs.lemmas.List.{append-nil, map-append}
use Rattle.task_text.specs.TaskLines.{IsTask}
use Rattle.task_text.specs.declared.task.Task.{Task}
use Rattle.journal_model.specs.declared.entry.Entry.{Entry}
use Rattle.journal_text.specs.Entries.Entries.{entry_line, IsEntry}
use Rattle.journal_text.specs.Lines.JournalTexts.{Told, worded, head, begin, stamp_line, again_line, again_lines, task_line, keep_line, end_line, first_lines, last_lines, told_lines}
use Rattle.journal_reader.specs.RunTexts.{IsTold, IsAgain, may_stand, AreInOrder, NoneKept, OneMore}
use Rattle.journal_reader.specs.Readings.{Reading, Goes, start, nothing_told, after_stamp}
use Rattle.journal_reader.specs.Runs.{Reads}
use Rattle.journal_reader.specs.declared.place.Place.{Place}
use Rattle.journal_reader.specs.declared.place.Place.TheVariants.{Head, Uuid, Name, Gitdir, Stamp, Again, Given, Entries, Over}

-- the lines lead from there to there, from any reading
abbrev Leads : Place → Told → List (List ℕ) → Place → Told → Type 0
Leads p t lines q u = (n : ℕ) → (m : ℕ) × Reads (record { place = p; taken = n; told = t }) lines (record { place = q; taken = m; told = u })

leads_none : (p : Place) (t : Told) → Leads p t [] p t
leads_none p t n = (n, refl)

-- one line, and then others
leads_one : (p q : Place) (t u : Told) (line : List ℕ) → Goes p t line q u → Leads p t (line ∷ []) q u
leads_one p q t u line g n = (n + 1, (record { place = q; taken = n + 1; told = u }, record { goes = g; taken = refl }, refl))

reads_on : (a b c : Reading) (xs ys : List (List ℕ)) → Reads a xs b → Reads b ys c → Reads a (xs ++ ys) c
reads_on a b c [] ys h k = let P : Reading → Type 0 = λ r. Reads r ys c in subst P h k
reads_on a b c (x ∷ xs) ys h k = (h.0, h.1, reads_on h.0 b c xs ys h.2 k)

leads_on : (p q r : Place) (t u v : Told) (xs ys : List (List ℕ)) → Leads p t xs q u → Leads q u ys r v → Leads p t (xs ++ ys) r v
leads_on p q r t u v xs ys h k n =
    let first = h n in
    let second = k first.0 in
    (second.0, reads_on _ _ _ xs ys first.1 second.1)

module _ (t : Told) (is : IsTold t) where
  -- the first lines
  abbrev with_head : Told
  with_head = record nothing_told { early = t.early }

  abbrev with_uuid : Told
  with_uuid = record with_head { uuid = t.uuid }

  abbrev with_name : Told
  with_name = record with_uuid { name = t.name }

  abbrev with_gitdir : Told
  with_gitdir = record with_name { gitdir = t.gitdir }

  abbrev with_stamp : Told
  with_stamp = record with_gitdir { stamp = t.stamp }

  abbrev with_again : Told
  with_again = record with_stamp { again = t.again }

  stamp_read : (b : Bool) → t.early ≡ b → IsAgain b t.again → Leads Stamp with_gitdir (stamp_line t.stamp ∷ again_lines b t.again) Given with_again
  stamp_read false e few =
      leads_on Stamp Again Given with_gitdir with_stamp with_again (stamp_line t.stamp ∷ []) (again_line t.again ∷ [])
      (leads_one Stamp Again with_gitdir with_stamp (stamp_line t.stamp) (refl, is.stamp, ap after_stamp (sym e), refl))
      (leads_one Again Given with_stamp with_again (again_line t.again) (refl, few, refl, refl))
  stamp_read true e none =
      leads_one Stamp Given with_gitdir with_again (stamp_line t.stamp) (refl, is.stamp, ap after_stamp (sym e), ap (λ (n : ℕ). record with_stamp { again = n }) none)

  abbrev after_gitdir : List (List ℕ)
  after_gitdir = stamp_line t.stamp ∷ again_lines t.early t.again

  abbrev after_name : List (List ℕ)
  after_name = worded (codes "gitdir") t.gitdir ∷ after_gitdir

  abbrev after_uuid : List (List ℕ)
  after_uuid = worded (codes "name") t.name ∷ after_name

  abbrev after_head : List (List ℕ)
  after_head = worded (codes "uuid") t.uuid ∷ after_uuid

  first_read : Leads Head nothing_told (first_lines t) Given with_again
  first_read =
      leads_on Head Uuid Given nothing_told with_head with_again (head t.early ∷ []) after_head
      (leads_one Head Uuid nothing_told with_head (head t.early) (refl, refl, refl))
      (leads_on Uuid Name Given with_head with_uuid with_again (worded (codes "uuid") t.uuid ∷ []) after_uuid
      (leads_one Uuid Name with_head with_uuid (worded (codes "uuid") t.uuid) (refl, is.uuid, refl, refl))
      (leads_on Name Gitdir Given with_uuid with_name with_again (worded (codes "name") t.name ∷ []) after_name
      (leads_one Name Gitdir with_uuid with_name (worded (codes "name") t.name) (refl, is.name, refl, refl))
      (leads_on Gitdir Stamp Given with_name with_gitdir with_again (worded (codes "gitdir") t.gitdir ∷ []) after_gitdir
      (leads_one Gitdir Stamp with_name with_gitdir (worded (codes "gitdir") t.gitdir) (refl, is.gitdir, refl, refl)) (stamp_read t.early refl is.again))))

  -- tasks
  abbrev with_tasks : List Task → Told
  with_tasks tasks = record with_again { tasks = tasks }

  task_read : (tasks : List Task) (task : Task) → IsTask task → length tasks < 65536 → Leads Given (with_tasks tasks) (task_line task ∷ []) Given (with_tasks (tasks ++ task ∷ []))
  task_read tasks task class few =
      leads_one Given Given (with_tasks tasks) (with_tasks (tasks ++ task ∷ [])) (task_line task)
      (inl (inr (refl, record { task = task; spelled = refl; class = class; first = refl; few = few; told = refl })))

  tasks_read : (tasks more : List Task) → ((n : ℕ) (task : Task) → slice_get more n ≡ Some task → IsTask task) → length tasks + length more ≤ 65536
      → Leads Given (with_tasks tasks) (map task_line more) Given (with_tasks (tasks ++ more))
  tasks_read tasks [] h few =
      let P : List Task → Type 0 = λ ts. Leads Given (with_tasks tasks) [] Given (with_tasks ts) in
      subst P (sym (append-nil tasks)) (leads_none Given (with_tasks tasks))
  tasks_read tasks (task ∷ more) h few =
      let long : length (tasks ++ task ∷ []) ≡ length tasks + 1 = length-append tasks (task ∷ []) in
      let P : List Task → Type 0 = λ ts. Leads Given (with_tasks tasks) (map task_line (task ∷ more)) Given (with_tasks ts) in
      subst P (append_assoc tasks (task ∷ []) more)
      (leads_on Given Given Given (with_tasks tasks) (with_tasks (tasks ++ task ∷ [])) (with_tasks ((tasks ++ task ∷ []) ++ more)) (task_line task ∷ []) (map task_line more)
      (task_read tasks task (h 0 task refl) (omega arith)) (tasks_read (tasks ++ task ∷ []) more (λ n x e. h (suc n) x e) (omega arith)))

  -- what is kept
  abbrev with_kept : List (List ℕ) → Told
  with_kept kept = record (with_tasks t.tasks) { kept = kept }

  kept_read : (kept : List (List ℕ)) → AreInOrder kept → Leads Given (with_tasks t.tasks) (map keep_line kept) Given (with_kept kept)
  kept_read kept NoneKept = leads_none Given (with_tasks t.tasks)
  kept_read kept (OneMore first line before class) =
      let P : List (List ℕ) → Type 0 = λ ls. Leads Given (with_tasks t.tasks) ls Given (with_kept (first ++ line ∷ [])) in
      subst P (sym (map-append keep_line first (line ∷ [])))
      (leads_on Given Given Given (with_tasks t.tasks) (with_kept first) (with_kept (first ++ line ∷ [])) (map keep_line first) (keep_line line ∷ [])
      (kept_read first before)
      (leads_one Given Given (with_kept first) (with_kept (first ++ line ∷ [])) (keep_line line) (inr (refl, record { text = line; spelled = refl; class = class; told = refl }))))

  -- entries
  abbrev with_entries : List Entry → Told
  with_entries entries = record (with_kept t.kept) { entries = entries }

  entries_read : (entries more : List Entry) → ((n : ℕ) (entry : Entry) → slice_get more n ≡ Some entry → IsEntry entry) → ((n : ℕ) (entry : Entry) → slice_get more n ≡ Some entry → IsTrue (may_stand t.early entry.what))
      → Leads Entries (with_entries entries) (map entry_line more) Entries (with_entries (entries ++ more))
  entries_read entries [] h k =
      let P : List Entry → Type 0 = λ es. Leads Entries (with_entries entries) [] Entries (with_entries es) in
      subst P (sym (append-nil entries)) (leads_none Entries (with_entries entries))
  entries_read entries (entry ∷ more) h k =
      let P : List Entry → Type 0 = λ es. Leads Entries (with_entries entries) (map entry_line (entry ∷ more)) Entries (with_entries es) in
      subst P (append_assoc entries (entry ∷ []) more)
      (leads_on Entries Entries Entries (with_entries entries) (with_entries (entries ++ entry ∷ [])) (with_entries ((entries ++ entry ∷ []) ++ more)) (entry_line entry ∷ []) (map entry_line more)
      (leads_one Entries Entries (with_entries entries) (with_entries (entries ++ entry ∷ [])) (entry_line entry) (inr (refl, record { entry = entry; spelled = refl; class = h 0 entry refl; stands = k 0 entry refl; told = refl })))
      (entries_read (entries ++ entry ∷ []) more (λ n x e. h (suc n) x e) (λ n x e. k (suc n) x e)))

  last_read : Leads Given (with_kept t.kept) (last_lines t.entries) Over t
  last_read =
      leads_on Given Entries Over (with_kept t.kept) (with_entries []) t (begin ∷ []) (map entry_line t.entries ++ end_line (length t.entries) ∷ [])
      (leads_one Given Entries (with_kept t.kept) (with_entries []) begin (inl (inl (refl, refl, refl))))
      (leads_on Entries Entries Over (with_entries []) (with_entries t.entries) t (map entry_line t.entries) (end_line (length t.entries) ∷ [])
      (entries_read [] t.entries is.entries is.stand)
      (leads_one Entries Over (with_entries t.entries) t (end_line (length t.entries)) (inl (refl, refl, refl))))

  all_read : Leads Head nothing_told (told_lines t) Over t
  all_read =
      leads_on Head Given Over nothing_told with_again t (first_lines t) (map task_line t.tasks ++ (map keep_line t.kept ++ last_lines t.entries)) first_read
      (leads_on Given Given Over with_again (with_tasks t.tasks) t (map task_line t.tasks) (map keep_line t.kept ++ last_lines t.entries) (tasks_read [] t.tasks is.tasks (omega arith))
      (leads_on Given Given Over (with_tasks t.tasks) (with_kept t.kept) t (map keep_line t.kept) (last_lines t.entries) (kept_read t.kept is.kept) last_read))

-- a whole text is taken, line by line, and then the reader was told what it tells
pub whole_is_read : (t : Told) → IsTold t → (n : ℕ) × Reads start (told_lines t) (record { place = Over; taken = n; told = t })
whole_is_read t is = all_read t is 0
