-- What a group notes is what its first entry notes.
use Rattle.std.proofs.Common.{◌≡◌, ◌∙◌, ℕ, ◌+◌, ◌*◌, ◌%◌, ◌<◌, ◌^◌, List, [], ◌∷◌, ◌++◌, refl, sym, ap, subst, Bool, true, false, not, cond, Option, Some, None, length, map, arith, inl, inr}
use Rattle.std.specs.Prelude.{◌&&◌, ◌==◌, filter, fold, nat_lt, IfOk, OnOk, OnErr, IsTrue, Ok, Err, Result}
use Rattle.std.specs.List.{cons_option}
use Rattle.std.proofs.lemmas.Bool.Decides.{nat_tests}
use Rattle.ann_key.specs.declared.bytes.NoMemory.{NoMemory}
use Rattle.annex_model.specs.Messages.{RemoteMessage}
use Rattle.task_text.specs.ChunkLog.Current.{layouts_of, IsCurrent}
use Rattle.task_text.specs.ChunkLog.NoteBooks.{in_order, inserted}
use Rattle.task_text.specs.declared.chunk_log.note.Note.{Note}
use Rattle.task_text.proofs.ChunkLogLemmas.Newest.{layouts_current}
use Rattle.registers.specs.Registers.{RegisterFile}
use Rattle.task_text.specs.declared.task.Task.{Task}
use Rattle.journal_model.specs.declared.verdict.Verdict.TheVariants.{Ended, Unsent}
use Rattle.journal_model.specs.declared.entry.What.{What}
use Rattle.journal_model.specs.declared.entry.What.TheVariants.{Lead, Put, Verdict as Settled, Note as Noted}
use Rattle.journal_model.specs.declared.entry.Entry.{Entry}
use Rattle.journal_model.specs.declared.opening.Opening.{Opening}
use Rattle.journal_model.specs.Journal.{each_of, open_jobs, is_unsent}
use Rattle.journal_model.specs.Due.{made_by, due_after}
use Rattle.journal_model.specs.Legality.{may_come, is_claimed_by, has_open_job, may_note, task_of}
use Rattle.journal_model.specs.Notes.{noted, with_notes, AreCurrentAt}
use Rattle.journal_model.specs.Replies.{set_by_all}
use Rattle.journal_model.proofs.Looks.{each_of-append}
use Rattle.journal_model.proofs.Noting.{current_of_book}
use Rattle.host_core.specs.declared.due.Due.{Due}
use Rattle.host_core.specs.declared.due.Due.TheVariants.{Nothing, Settle, Request, Replies, EndOf, EndedJobs, UnsentJobs}
use Rattle.host_core.specs.declared.event.Event.{Event}
use Rattle.host_core.specs.declared.event.Event.TheVariants.{Layouts as AskLayouts}
use Rattle.host_core.specs.declared.event.Reply.{Reply}
use Rattle.host_core.specs.declared.event.Reply.TheVariants.{Layouts as Known}
use Rattle.host_core.specs.Books.{notes_after, noted_in, is_note, IsSized}
use Rattle.host_core.specs.Steps.{Step, step_of, group_of, layouts_for, odd}
use Rattle.host_core.specs.Moves.{dues, group_made, first_room}
use Rattle.host_core.specs.Settings.{set_in, is_reply}
use Rattle.host_core.proofs.Stepping.{Came, plain_may, step_came}
use Rattle.ann_key.proofs.Booleans.{and_last}

-- ---- what is due notes nothing

none_noted : {X : Type 0} (o : Opening) (by : ℕ) (f : X → What) → ((x : X) → noted o (f x) ≡ None) → (xs : List X) → each_of (noted o) (made_by by (map f xs)) ≡ []
none_noted o by f h [] = refl
none_noted {X = X} o by f h (x ∷ xs) = let here = h x in rw here (none_noted o by f h xs)

due_notes : (o : Opening) (past : List Entry) (by : ℕ) (due : Due) → each_of (noted o) (made_by by (dues past due)) ≡ []
due_notes o past by Nothing = refl
due_notes o past by (Settle child job verdict) = refl
due_notes o past by (Request child job task line) = refl
due_notes o past by (Replies child job lines) = none_noted o by (λ line. Put child job line) (λ line. refl) lines.items
due_notes o past by (EndOf child why) = none_noted o by (λ j. Settled child j (Ended why)) (λ j. refl) (open_jobs past child)
due_notes o past by (EndedJobs child why) = none_noted o by (λ j. Settled child j (Ended why)) (λ j. refl) (open_jobs past child)
due_notes o past by (UnsentJobs child) = none_noted o by (λ j. Settled child j Unsent) (λ j. refl) (filter_unsent)
  where
    filter_unsent : List ℕ
    filter_unsent = filter (is_unsent past child) (open_jobs past child)

group_notes : (o : Opening) (past : List Entry) (by : ℕ) (what : Option What) (due : Due) → each_of (noted o) (group_made past by what due) ≡ cons_option (noted_in o what) []
group_notes o past by None due = refl
group_notes o past by (Some w) due = go (noted o w) (due_notes o past by due)
  where
    rest : List Note
    rest = each_of (noted o) (made_by by (dues past due))

    go : (n : Option Note) → rest ≡ [] → cons_option n rest ≡ cons_option n []
    go n h = ap (λ (l : List Note). cons_option n l) h

with_notes-append : (ms : List Note) (book : List Note) (ns : List Note) → with_notes book (ms ++ ns) ≡ with_notes (with_notes book ms) ns
with_notes-append [] book ns = refl
with_notes-append (m ∷ ms) book ns = with_notes-append ms (inserted m book) ns

-- the book after a group is the one before it, with what the group notes
pub notes_grow : (o : Opening) (past grown : List Entry) (before after : List Note) (by : ℕ) (what : Option What) (due : Due) → before ≡ notes_after o past
    → after ≡ with_notes before (cons_option (noted_in o what) []) → grown ≡ past ++ group_made past by what due → after ≡ notes_after o grown
notes_grow o past grown before after by what due was is more =
    is ∙ ap (λ (b : List Note). with_notes b (cons_option (noted_in o what) [])) was
    ∙ sym (
    ap (λ (es : List Entry). with_notes o.notes (each_of (noted o) es)) more
    ∙ ap (with_notes o.notes) (each_of-append (noted o) past (group_made past by what due))
    ∙ with_notes-append (each_of (noted o) past) o.notes (each_of (noted o) (group_made past by what due))
    ∙ ap (with_notes (notes_after o past)) (group_notes o past by what due)
    )

-- ---- a note that a group begins with is of chunks that hold something

pub first_is : (d e : Entry) (ds es : List Entry) → d ∷ ds ≡ e ∷ es → d ≡ e
first_is d e ds es h = cc

above_none : (n : ℕ) → nat_lt 0 n ≡ true → 0 < n
above_none n h = grind (arith, nat_tests)

pub note_fits : (o : Opening) (past : List Entry) (by : ℕ) (event : Event) (what : Option What) (due : Due) → length past < 2 ^ 64
    → group_made past by what due ≡ (step_of o past by event).group → IsSized what
note_fits o past by event None due few e = tt
note_fits o past by event (Some w) due few e = go (step_of o past by event) (step_came o past by event few) e
  where
    sized : (v : What) → may_come o past by v ≡ true → IsSized (Some v)
    sized (Noted task chunk count) may =
        above_none chunk (and_last (is_claimed_by past by task && may_note (task_of o task) && not (has_open_job past task)) (nat_lt 0 chunk) may)
    sized v may = tt

    go : (s : Step) → Came o past by s → record { by = by; what = w } ∷ made_by by (dues past due) ≡ s.group → IsSized (Some w)
    go s (inl none) e = absurd (let no : record { by = by; what = w } ∷ made_by by (dues past due) ≡ [] = e ∙ none in cc)
    go s (inr (inr named)) e =
        let head = first_is (record { by = by; what = w }) (record { by = by; what = Lead named.child named.job named.name }) (made_by by (dues past due)) _ (e ∙ named.is) in
        subst (λ (x : What). IsSized (Some x)) (sym (ap (λ (x : Entry). x.what) head)) tt
    go s (inr (inl some)) e =
        let head = first_is (record { by = by; what = w }) (record { by = by; what = some.0 }) (made_by by (dues past due)) (due_after o past (record { by = by; what = some.0 })) (e ∙ some.2) in
        subst (λ (x : What). IsSized (Some x)) (sym (ap (λ (x : Entry). x.what) head)) (sized some.0 (plain_may o past by some.0 some.1))

-- ---- a note sets nothing, and takes room

pub unset : (b : Bool) → cond {A = Option RemoteMessage} b None None ≡ None
unset true = refl
unset false = refl

pub note_sets_none : (past : List Entry) (what : Option What) (due : Due) → is_note what ≡ true → set_in past what due ≡ None
note_sets_none past None due h = absurd cc
note_sets_none past (Some (Noted task chunk count)) due h = unset (is_reply due)
note_sets_none past (Some w) due h = absurd cc

pub note_room : (what : Option What) → is_note what ≡ true → first_room what ≡ 0 → ⊥
note_room None h none = absurd cc
note_room (Some (Noted task chunk count)) h none = omega (arith, none)
note_room (Some w) h none = absurd cc

-- ---- the layouts that are answered

pub layouts_current_at : (o : Opening) (past : List Entry) (by number : ℕ) (layouts : List (ℕ × ℕ)) → IsTrue (in_order o.notes)
    → (step_of o past by (AskLayouts number)).reply ≡ Known layouts → (task : Task) × (task_of o number ≡ Some task) × AreCurrentAt o past task.key layouts
layouts_current_at o past by number layouts order told = go (is_claimed_by past by number) (task_of o number) refl told
  where
    go : (b : Bool) (t : Option Task) → task_of o number ≡ t → (cond b (layouts_for o past t) odd).reply ≡ Known layouts
        → (task : Task) × (task_of o number ≡ Some task) × AreCurrentAt o past task.key layouts
    go false t there told = absurd cc
    go true None there told = absurd cc
    go true (Some task) there told =
        let is : layouts_of (notes_after o past) task.key o.identity.uuid ≡ layouts = cc in (
          task,
          there,
          current_of_book o past task.key layouts order
              (subst (λ (l : List (ℕ × ℕ)). IsCurrent (notes_after o past) task.key o.identity.uuid l) is (layouts_current (notes_after o past) task.key o.identity.uuid)),
        )
