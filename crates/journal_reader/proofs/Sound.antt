-- What was taken line by line is told, and may be.
use Rattle.std.proofs.Common.{◌≡◌, ℕ, zero, suc, ◌+◌, ◌<◌, Bool, true, false, inl, inr, List, [], ◌∷◌, ◌++◌, map, length, Some, refl, sym, ap, subst, ◌∙◌, arith, append_assoc, length-append}
use Rattle.std.specs.Prelude.{codes, IsTrue}
use Rattle.std.specs.List.{slice_get}
use Rattle.std.proofs.lemmas.List.{append-nil, map-append}
use Rattle.task_text.specs.TaskLines.{IsTask}
use Rattle.task_text.specs.declared.task.Task.{Task}
use Rattle.journal_model.specs.declared.entry.Entry.{Entry}
use Rattle.journal_text.specs.Entries.Entries.{entry_line, IsEntry}
use Rattle.journal_text.specs.Lines.JournalTexts.{Told, worded, head, begin, stamp_line, task_line, keep_line, end_line, first_lines, told_lines}
use Rattle.journal_reader.specs.RunTexts.{is_uuid, may_stand, IsTold, NoneKept, OneMore}
use Rattle.journal_reader.specs.Readings.{Reading, Goes, start, nothing_told, after_stamp, TakesTask, TakesKept}
use Rattle.journal_reader.specs.Runs.{Reads, lines_told, IsSoFar}
use Rattle.journal_reader.specs.declared.place.Place.{Place}
use Rattle.journal_reader.specs.declared.place.Place.TheVariants.{Head, Uuid, Name, Gitdir, Stamp, Again, Given, Entries, Over, Refused}

-- ---- one more after some
module _ {X : Type 0} (P : X → Type 0) where
  own : (x y : X) → Some x ≡ Some y → P x → P y
  own x y e p = let same : x ≡ y = cc in subst P same p

  pub each_more : (xs : List X) (x : X) → ((n : ℕ) (y : X) → slice_get xs n ≡ Some y → P y) → P x → (n : ℕ) (y : X) → slice_get (xs ++ x ∷ []) n ≡ Some y → P y
  each_more [] x h p zero y e = own x y e p
  each_more [] x h p (suc n) y e = absurd cc
  each_more (z ∷ xs) x h p zero y e = h zero y e
  each_more (z ∷ xs) x h p (suc n) y e = each_more xs x (λ m w k. h (suc m) w k) p n y e

module _ {X : Type 0} (f a k : List X) (x : X) where
  with_task : k ≡ [] → f ++ ((a ++ x ∷ []) ++ k) ≡ (f ++ (a ++ k)) ++ x ∷ []
  with_task e =
      ap (λ (l : List X). f ++ ((a ++ x ∷ []) ++ l)) e
      ∙ ap (λ (l : List X). f ++ l) (append-nil (a ++ x ∷ []))
      ∙ sym (append_assoc f a (x ∷ []))
      ∙ ap (λ (l : List X). (f ++ l) ++ x ∷ []) (sym (append-nil a))
      ∙ ap (λ (l : List X). (f ++ (a ++ l)) ++ x ∷ []) (sym e)

  with_kept : f ++ (a ++ (k ++ x ∷ [])) ≡ (f ++ (a ++ k)) ++ x ∷ []
  with_kept = ap (λ (l : List X). f ++ l) (sym (append_assoc a k (x ∷ []))) ∙ sym (append_assoc f (a ++ k) (x ∷ []))

-- after `begin`
with_entry : {X : Type 0} (f a k b : List X) (x : X) → f ++ (a ++ (k ++ (b ++ x ∷ []))) ≡ (f ++ (a ++ (k ++ b))) ++ x ∷ []
with_entry f a k b x = ap (λ l. f ++ (a ++ l)) (sym (append_assoc k b (x ∷ []))) ∙ with_kept f a (k ++ b) x

-- ---- one line
record Step (before : List (List ℕ)) (line : List ℕ) (place : Place) (told : Told) : Type 0 where
  so_far : IsSoFar place told
  lines : lines_told place told ≡ before ++ line ∷ []

-- to a place and what is told there, which are these
to : (before : List (List ℕ)) (line : List ℕ) (place at : Place) (told new : Told) → place ≡ at → told ≡ new → Step before line at new → Step before line place told
to before line place at told new e k s =
    let P : Place → Type 0 = λ p. Step before line p told in
    let Q : Told → Type 0 = λ t. Step before line at t in
    subst P (sym e) (subst Q (sym k) s)

module _ (t : Told) (line : List ℕ) (place : Place) (new : Told) where
  head_step : t ≡ nothing_told → Goes Head t line place new → Step (lines_told Head t) line place new
  head_step s g =
      to [] line place Uuid new (record t { early = new.early }) g.1 g.2
      (record { so_far = ap (λ (u : Told). record u { early = new.early }) s; lines = ap (λ (l : List ℕ). l ∷ []) (sym g.0) })

  uuid_step : IsSoFar Uuid t → Goes Uuid t line place new → Step (lines_told Uuid t) line place new
  uuid_step s g =
      to (lines_told Uuid t) line place Name new (record t { uuid = new.uuid }) g.2 g.3
      (record { so_far = (g.1, ap (λ (u : Told). record u { uuid = new.uuid }) s); lines = ap (λ (l : List ℕ). head t.early ∷ l ∷ []) (sym g.0) })

  name_step : IsSoFar Name t → Goes Name t line place new → Step (lines_told Name t) line place new
  name_step s g =
      to (lines_told Name t) line place Gitdir new (record t { name = new.name }) g.2 g.3 (record {
        so_far = (s.0, g.1, ap (λ (u : Told). record u { name = new.name }) s.1);
        lines = ap (λ (l : List ℕ). head t.early ∷ worded (codes "uuid") t.uuid ∷ l ∷ []) (sym g.0);
      })

  gitdir_step : IsSoFar Gitdir t → Goes Gitdir t line place new → Step (lines_told Gitdir t) line place new
  gitdir_step s g =
      to (lines_told Gitdir t) line place Stamp new (record t { gitdir = new.gitdir }) g.2 g.3 (record {
        so_far = (s.0, s.1, g.1, ap (λ (u : Told). record u { gitdir = new.gitdir }) s.2);
        lines = ap (λ (l : List ℕ). head t.early ∷ worded (codes "uuid") t.uuid ∷ worded (codes "name") t.name ∷ l ∷ []) (sym g.0);
      })

  abbrev up_to_gitdir : Bool → List (List ℕ)
  up_to_gitdir early = head early ∷ worded (codes "uuid") t.uuid ∷ worded (codes "name") t.name ∷ worded (codes "gitdir") t.gitdir ∷ []

  abbrev stamped : Bool → ℕ → Told
  stamped early n = record nothing_told { early = early; uuid = t.uuid; name = t.name; gitdir = t.gitdir; stamp = n }

  stamped_step : IsSoFar Stamp t → Goes Stamp t line place new → (early : Bool) → Step (up_to_gitdir early) line (after_stamp early) (stamped early new.stamp)
  stamped_step s g false =
      record { so_far = (s.0, s.1, s.2, g.1, refl); lines = ap (λ (l : List ℕ). up_to_gitdir false ++ l ∷ []) (sym g.0) }
  stamped_step s g true = record {
    so_far = (
      record {
        uuid = s.0;
        name = s.1;
        gitdir = s.2;
        stamp = g.1;
        again = refl;
        few = omega arith;
        tasks = λ n task e. absurd cc;
        kept = NoneKept;
        entries = λ n entry e. absurd cc;
        stand = λ n entry e. absurd cc;
      },
      refl,
    );
    lines = ap (λ (l : List ℕ). up_to_gitdir true ++ l ∷ []) (sym g.0);
  }

  stamp_step : IsSoFar Stamp t → Goes Stamp t line place new → Step (lines_told Stamp t) line place new
  stamp_step s g =
      let is : new ≡ stamped t.early new.stamp = g.3 ∙ ap (λ (u : Told). record u { stamp = new.stamp }) s.3 in
      to (lines_told Stamp t) line place (after_stamp t.early) new (stamped t.early new.stamp) g.2 is (stamped_step s g t.early)

  abbrev run_again : ℕ → Told
  run_again n = record (stamped false t.stamp) { again = n }

  again_step : IsSoFar Again t → Goes Again t line place new → Step (lines_told Again t) line place new
  again_step s g =
      let is : new ≡ run_again new.again = g.3 ∙ ap (λ (u : Told). record u { again = new.again }) s.4 in
      let now : t.early ≡ false = ap (λ (u : Told). u.early) s.4 in
      to (lines_told Again t) line place Given new (run_again new.again) g.2 is (record {
        so_far = (
          record {
            uuid = s.0;
            name = s.1;
            gitdir = s.2;
            stamp = s.3;
            again = g.1;
            few = omega arith;
            tasks = λ n task e. absurd cc;
            kept = NoneKept;
            entries = λ n entry e. absurd cc;
            stand = λ n entry e. absurd cc;
          },
          refl,
        );
        lines =
            ap (λ (l : List ℕ). up_to_gitdir false ++ stamp_line t.stamp ∷ l ∷ []) (sym g.0)
            ∙ ap (λ (b : Bool). up_to_gitdir b ++ stamp_line t.stamp ∷ line ∷ []) (sym now);
      })

  abbrev tasked : Task → Told
  tasked task = record t { tasks = t.tasks ++ task ∷ [] }

  task_step : IsTold t → t.entries ≡ [] → place ≡ Given → TakesTask t line new → Step (lines_told Given t) line place new
  task_step s none at g =
      let long : length (t.tasks ++ g.task ∷ []) ≡ length t.tasks + 1 = length-append t.tasks (g.task ∷ []) in
      let few : length t.tasks < 65536 = g.few in
      to (lines_told Given t) line place Given new (tasked g.task) at g.told (record {
        so_far = (
          record {
            uuid = s.uuid;
            name = s.name;
            gitdir = s.gitdir;
            stamp = s.stamp;
            again = s.again;
            few = omega arith;
            tasks = each_more IsTask t.tasks g.task s.tasks g.class;
            kept = s.kept;
            entries = s.entries;
            stand = s.stand;
          },
          none,
        );
        lines =
            ap (λ (l : List (List ℕ)). first_lines t ++ (l ++ map keep_line t.kept)) (map-append task_line t.tasks (g.task ∷ []))
            ∙ with_task (first_lines t) (map task_line t.tasks) (map keep_line t.kept) (task_line g.task) (ap (map keep_line) g.first)
            ∙ ap (λ (l : List ℕ). lines_told Given t ++ l ∷ []) (sym g.spelled);
      })

  abbrev keeping : List ℕ → Told
  keeping text = record t { kept = t.kept ++ text ∷ [] }

  kept_step : IsTold t → t.entries ≡ [] → place ≡ Given → TakesKept t line new → Step (lines_told Given t) line place new
  kept_step s none at g =
      to (lines_told Given t) line place Given new (keeping g.text) at g.told (record {
        so_far = (
          record {
            uuid = s.uuid;
            name = s.name;
            gitdir = s.gitdir;
            stamp = s.stamp;
            again = s.again;
            few = s.few;
            tasks = s.tasks;
            kept = OneMore t.kept g.text s.kept g.class;
            entries = s.entries;
            stand = s.stand;
          },
          none,
        );
        lines =
            ap (λ (l : List (List ℕ)). first_lines t ++ (map task_line t.tasks ++ l)) (map-append keep_line t.kept (g.text ∷ []))
            ∙ with_kept (first_lines t) (map task_line t.tasks) (map keep_line t.kept) (keep_line g.text)
            ∙ ap (λ (l : List ℕ). lines_told Given t ++ l ∷ []) (sym g.spelled);
      })

  given_step : IsSoFar Given t → Goes Given t line place new → Step (lines_told Given t) line place new
  given_step s (inl (inl g)) =
      to (lines_told Given t) line place Entries new t g.1 g.2 (record {
        so_far = s.0;
        lines =
            ap (λ (es : List Entry). first_lines t ++ (map task_line t.tasks ++ (map keep_line t.kept ++ begin ∷ map entry_line es))) s.1
            ∙ with_kept (first_lines t) (map task_line t.tasks) (map keep_line t.kept) begin
            ∙ ap (λ (l : List ℕ). lines_told Given t ++ l ∷ []) (sym g.0);
      })
  given_step s (inl (inr g)) = task_step s.0 s.1 g.0 g.1
  given_step s (inr g) = kept_step s.0 s.1 g.0 g.1

  abbrev written : Entry → Told
  written entry = record t { entries = t.entries ++ entry ∷ [] }

  entry_step : IsSoFar Entries t → Goes Entries t line place new → Step (lines_told Entries t) line place new
  entry_step s (inl g) =
      to (lines_told Entries t) line place Over new t g.1 g.2 (record {
        so_far = s;
        lines =
            with_entry (first_lines t) (map task_line t.tasks) (map keep_line t.kept) (begin ∷ map entry_line t.entries) (end_line (length t.entries))
            ∙ ap (λ (l : List ℕ). lines_told Entries t ++ l ∷ []) (sym g.0);
      })
  entry_step s (inr g) =
      to (lines_told Entries t) line place Entries new (written g.1.entry) g.0 g.1.told (record {
        so_far = record {
          uuid = s.uuid;
          name = s.name;
          gitdir = s.gitdir;
          stamp = s.stamp;
          again = s.again;
          few = s.few;
          tasks = s.tasks;
          kept = s.kept;
          entries = each_more IsEntry t.entries g.1.entry s.entries g.1.class;
          stand = each_more (λ (e : Entry). IsTrue (may_stand t.early e.what)) t.entries g.1.entry s.stand g.1.stands;
        };
        lines =
            ap (λ (l : List (List ℕ)). first_lines t ++ (map task_line t.tasks ++ (map keep_line t.kept ++ begin ∷ l))) (map-append entry_line t.entries (g.1.entry ∷ []))
            ∙ with_entry (first_lines t) (map task_line t.tasks) (map keep_line t.kept) (begin ∷ map entry_line t.entries) (entry_line g.1.entry)
            ∙ ap (λ (l : List ℕ). lines_told Entries t ++ l ∷ []) (sym g.1.spelled);
      })

step : (at : Place) (t : Told) (line : List ℕ) (place : Place) (new : Told) → IsSoFar at t → Goes at t line place new → Step (lines_told at t) line place new
step Head t line place new s g = head_step t line place new s g
step Uuid t line place new s g = uuid_step t line place new s g
step Name t line place new s g = name_step t line place new s g
step Gitdir t line place new s g = gitdir_step t line place new s g
step Stamp t line place new s g = stamp_step t line place new s g
step Again t line place new s g = again_step t line place new s g
step Given t line place new s g = given_step t line place new s g
step Entries t line place new s g = entry_step t line place new s g
step Over t line place new s g = absurd g
step (Refused number) t line place new s g = absurd g

-- ---- all lines

-- what lines tell one by one
pub record Tells (all : List (List ℕ)) (r : Reading) : Type 0 where
  pub so_far : IsSoFar r.place r.told
  pub lines : lines_told r.place r.told ≡ all
  pub taken : r.taken ≡ length all

pub tells_none : Tells [] start
tells_none = record { so_far = refl; lines = refl; taken = refl }

pub tells_more : (before lines : List (List ℕ)) (old new : Reading) → Tells before old → Reads old lines new → Tells (before ++ lines) new
tells_more before [] old new h r =
    let P : Reading → Type 0 = λ x. Tells (before ++ []) x in
    let Q : List (List ℕ) → Type 0 = λ l. Tells l old in
    subst P (sym r) (subst Q (sym (append-nil before)) h)
tells_more before (line ∷ lines) old new h r =
    let next : Reading = r.0 in
    let s = step old.place old.told line next.place next.told h.so_far r.1.goes in
    let long : length (before ++ line ∷ []) ≡ length before + 1 = length-append before (line ∷ []) in
    let counted : next.taken ≡ length (before ++ line ∷ []) = r.1.taken ∙ ap (λ n. n + 1) h.taken ∙ sym long in
    let told : Tells (before ++ line ∷ []) next = record { so_far = s.so_far; lines = s.lines ∙ ap (λ (l : List (List ℕ)). l ++ line ∷ []) h.lines; taken = counted } in
    let Q : List (List ℕ) → Type 0 = λ l. Tells l new in
    subst Q (append_assoc before (line ∷ []) lines) (tells_more (before ++ line ∷ []) lines next new told r.2)

pub all_told : (lines : List (List ℕ)) (r : Reading) → Reads start lines r → Tells lines r
all_told lines r reads = tells_more [] lines start r tells_none reads

-- lines that were taken up to the end are a whole text
pub over_is_whole : (lines : List (List ℕ)) (r : Reading) → Reads start lines r → r.place ≡ Over → IsTold r.told × (told_lines r.told ≡ lines)
over_is_whole lines r reads at =
    let t = all_told lines r reads in
    let P : Place → Type 0 = λ p. IsSoFar p r.told in
    (subst P at t.so_far, ap (λ (p : Place). lines_told p r.told) (sym at) ∙ t.lines)
