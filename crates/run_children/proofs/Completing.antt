-- Where no desk counted a fault and each task found what it should, each answer in the journal is a success, or says that no memory was found.
use Rattle.ann_outside.specs.Told.{DeskTold}
use Rattle.std.proofs.Common.{◌≡◌, ◌∙◌, ◌⊎◌, inl, inr, ℕ, ◌+◌, ◌-◌, ◌^◌, ◌≤◌, ◌<◌, ◌==◌, Bool, true, false, cond, List, [], ◌∷◌, ◌++◌, length, refl, sym, ap, subst, arith, Some, None, Option, Ok}
use Rattle.std.specs.Prelude.{◌||◌, All, is_some, map, min}
use Rattle.std.specs.List.{list_all, list_any, cons_option}
use Rattle.std.proofs.lemmas.Bool.Decides.{nat_tests}
use Rattle.std.proofs.lemmas.List.Elements.{All-cons, All-head, All-nil, All-tail}
use Rattle.ann_key.specs.Keys.{Parts, key_reading}
use Rattle.ann_outside.specs.Causes.{Rose}
use Rattle.ann_outside.specs.DeskCauses.{Counts}
use Rattle.journal_model.specs.declared.answer.Answer.{Answer}
use Rattle.journal_model.specs.declared.answer.Answer.TheVariants.{FileFault, NoFile}
use Rattle.journal_model.specs.declared.entry.What.{What}
use Rattle.journal_model.specs.declared.entry.What.TheVariants.{Claim, Answer as Answered}
use Rattle.journal_model.specs.declared.entry.Entry.{Entry}
use Rattle.journal_model.specs.declared.opening.Opening.{Opening}
use Rattle.journal_model.specs.Journal.{any}
use Rattle.journal_model.specs.Legality.{answers, claims, is_of_lost_child, task_of, turn_of_task}
use Rattle.journal_model.specs.Makers.{is_of_task}
use Rattle.journal_model.proofs.Looks.{any-append, entry}
use Rattle.journal_model.proofs.Testing.{by_either}
use Rattle.journal_model.proofs.Working.{tasks_kept}
use Rattle.task_text.specs.declared.task.Task.{Task}
use Rattle.task_text.specs.declared.task.Work.{Work}
use Rattle.task_text.specs.declared.task.Work.TheVariants as W
use Rattle.task_model.specs.declared.setup.Setup.{Setup}
use Rattle.task_model.specs.Askings.{TaskStretch, closing, run_askings, run_notings, run_turn}
use Rattle.task_model.specs.Ran.{HasTaskCauses, is_of_content}
use Rattle.crew_work.specs.Worker.Works.{CausedInTurn, TaskDone, turns_of}
use Rattle.run_starts.specs.TaskLaws.ChildrenWell.{AreKeysRead, ChildrenWell, IsDoneWell}
use Rattle.run_starts.specs.TaskLaws.RunWell.{AreAskedWell}
use Rattle.run_starts.specs.TaskLaws.WentWell.{IsFoundWell, IsSuccess, is_asked_well, is_called_well, success_of}
use Rattle.run_starts.proofs.TaskLawsLemmas.LastRuns.{answered_is_last}
use Rattle.run_starts.proofs.TaskLawsLemmas.RunsWell.{one_succeeds, run_asks}
use Rattle.run_starts.proofs.TaskLawsLemmas.WellTasks.{well_unless_refused}
use Rattle.run_children.specs.Completeness.{DesksFound, FindsWell, JobsComplete}
use Rattle.run_children.specs.Desks.{AreDone, DesksDid, HasDesk, HaveDesks, IsTaskDone, claimed_for, claims_for, desk_of}
use Rattle.run_children.proofs.NoneUnserved.{none_unserved}
use Rattle.run_children.proofs.OneAnswer.{Stands, answered_once, only_one}
use Rattle.run_starts.proofs.TaskLawsLemmas.OneStore.{task_above as task_number}
use Rattle.ann_key.proofs.Numbers.{same_number as same}
use Rattle.std.proofs.lemmas.Bool.{eqb-true as same_number}
use Rattle.ann_key.proofs.Booleans.{true_and_false as true_not_false, or_left, or_right}

-- ---- counts

abbrev Later : Counts → Counts → Type 0
Later old new = (old.faults ≤ new.faults) × (old.missing ≤ new.missing)

rose_within : (a b c d : ℕ) → a ≤ b → Rose b c → c ≤ d → Rose a d
rose_within a b c d h r k = (let x : min (b + 1) (2 ^ 64 - 1) ≤ c = r in omega (arith, h, x, k))

later_both : (a b c : Counts) → Later a b → Later b c → Later a c
later_both a b c h k =
    let hf = h.0 in
    let hm = h.1 in
    let kf = k.0 in
    let km = k.1 in
    (omega (arith, hf, kf), omega (arith, hm, km))

caused_later : (old new : Counts) (rs : List TaskDone) → CausedInTurn old rs new → Later old new
caused_later old new [] h = subst (Later old) (sym h) (omega arith, omega arith)
caused_later old new (r ∷ rs) h = later_both old r.counts new (h.0.faults_later, h.0.missing_later) (caused_later r.counts new rs h.1)

refused_is : (a : Answer) → is_of_content a ≡ false → (a ≡ FileFault) ⊎ (a ≡ NoFile)
refused_is FileFault h = inl refl
refused_is NoFile h = inr refl
refused_is a h = absurd cc

-- ---- which desk claimed a task

any_behind : (p : ℕ × ℕ → Bool) (x : Option (ℕ × ℕ)) (xs : List (ℕ × ℕ)) → list_any p xs ≡ true → list_any p (cons_option x xs) ≡ true
any_behind p None xs h = h
any_behind p (Some x) xs h = or_right (p x) (list_any p xs) h

-- a turn of the task
abbrev is_of : ℕ → ℕ × ℕ → Bool
is_of t u = u.0 == t

pub record IsFound (n : ℕ) (past xs : List Entry) (t : ℕ) : Type 0 where
  pub desk : ℕ
  pub some : 0 < desk
  pub few : desk ≤ n
  pub claimed : list_any (is_of t) (claims_for desk past xs) ≡ true

claim_found : (n : ℕ) (past xs : List Entry) (t : ℕ) → HaveDesks n past xs → any (claims t) xs ≡ true → IsFound n past xs t
claim_found n past [] t h k = absurd cc
claim_found n past (e ∷ xs) t h k = by_what e.what refl h.0 k (claim_found n (past ++ e ∷ []) xs t h.1)
  where
    later : IsFound n (past ++ e ∷ []) xs t → IsFound n past (e ∷ xs) t
    later f = record {
      desk = f.desk;
      some = f.some;
      few = f.few;
      claimed = any_behind (is_of t) (claimed_for f.desk past e.by e.what) (claims_for f.desk (past ++ e ∷ []) xs) f.claimed;
    }

    here : (task child : ℕ) → e.what ≡ Claim task child → (task == t) ≡ true → HasDesk n past e.by (Claim task child) → IsFound n past (e ∷ xs) t
    here task child is at d =
        let own : claimed_for (desk_of past e.by child) past e.by e.what ≡ Some (task, turn_of_task past task) =
        ap (claimed_for (desk_of past e.by child) past e.by) is ∙ ap (λ (b : Bool). cond {A = Option (ℕ × ℕ)} b (Some (task, turn_of_task past task)) None) (same (desk_of past e.by child)) in
        record {
          desk = desk_of past e.by child;
          some = d.0;
          few = d.1;
          claimed =
              ap (λ (x : Option (ℕ × ℕ)). list_any (is_of t) (cons_option x (claims_for (desk_of past e.by child) (past ++ e ∷ []) xs))) own
              ∙ or_left (task == t) (list_any (is_of t) (claims_for (desk_of past e.by child) (past ++ e ∷ []) xs)) at;
        }

    by_what : (w : What) → e.what ≡ w → HasDesk n past e.by w → (claims t w || any (claims t) xs) ≡ true → (any (claims t) xs ≡ true → IsFound n (past ++ e ∷ []) xs t) → IsFound n past (e ∷ xs) t
    by_what (Claim task child) is d j more = by_test (task == t) refl j
      where
        by_test : (b : Bool) → (task == t) ≡ b → (b || any (claims t) xs) ≡ true → IsFound n past (e ∷ xs) t
        by_test true at j = here task child is at d
        by_test false at j = later (more j)
    by_what w is d j more = later (more j)

-- ---- one task

module _ (o : Opening) (setup : Setup) (limit : ℕ) (journal : List Entry) (starts : 0 < limit) (keys : AreKeysRead o) (children : ChildrenWell journal) (asked : AreAskedWell o journal) where
  module _ (old new : Counts) (quiet : Rose old.faults new.faults → ⊥) where
    one_found : (r : TaskDone) (before : Counts) → Later old before → HasTaskCauses before r.counts (Ok r.answer) → Later r.counts new → FindsWell o setup journal old new r
        → IsTaskDone o setup limit journal r → IsDoneWell o r
    one_found r before early causes late finds (inr z) = absurd (none_unserved limit journal r.task starts children r.answer z.0)
    one_found r before early causes late finds (inl c) = by_key (key_reading c.run.task.key) refl (keys r.task c.run.task c.run.is)
      where
        as_given : IsSuccess c.run.task.work c.run.run.answer → IsDoneWell o r
        as_given s task is =
            let chosen : Some c.run.task ≡ Some task = sym c.run.is ∙ is in
            let at : c.run.task ≡ task = cc in
            subst (λ (x : Task). IsSuccess x.work r.answer) at (subst (λ (x : Answer). IsSuccess c.run.task.work x) c.answer s)

        -- neither was counted
        never : (Rose old.missing new.missing → ⊥) → is_of_content c.run.run.answer ≡ false → ⊥
        never none q = by_answer (refused_is r.answer (ap is_of_content (sym c.answer) ∙ q))
          where
            by_answer : (r.answer ≡ FileFault) ⊎ (r.answer ≡ NoFile) → ⊥
            by_answer (inl e) = quiet (rose_within old.faults before.faults r.counts.faults new.faults early.0 (causes.fault (ap Ok e)) late.0)
            by_answer (inr e) = none (rose_within old.missing before.missing r.counts.missing new.missing early.1 (causes.no_file (ap Ok e)) late.1)

        by_key : (x : Option Parts) → key_reading c.run.task.key ≡ x → is_some x ≡ true → IsDoneWell o r
        by_key None e s = absurd cc
        by_key (Some key) e s = by_desk (finds c.number c.run key e)
          where
            Found : Type 0
            Found = IsFoundWell setup (run_turn c.run.run) c.run.task key c.run.layouts c.run.task.work (run_askings c.run.run) r.calls

            asks_well : list_all (is_asked_well c.run.task.work) (run_askings c.run.run) ≡ true
            asks_well = run_asks (is_asked_well c.run.task.work) journal r.task c.run.run (asked r.task c.run.task c.run.is)

            counted : (Rose old.missing new.missing → ⊥) → IsSuccess c.run.task.work c.run.run.answer ⊎ (is_of_content c.run.run.answer ≡ false) → IsDoneWell o r
            counted none (inl s) = as_given s
            counted none (inr q) = absurd (never none q)

            by_desk : IsFoundWell setup (run_turn c.run.run) c.run.task key c.run.layouts c.run.task.work (run_askings c.run.run) r.calls
                × ((Rose old.missing new.missing → ⊥) ⊎ (list_all (is_called_well (Rattle.task_model.specs.Names.part_of c.run.task.file)) r.calls ≡ true)) → IsDoneWell o r
            by_desk (found, inl none) =
                counted none (well_unless_refused c.run.task (run_turn c.run.run) setup c.run.layouts (run_askings c.run.run) r.calls (run_notings c.run.run) c.run.run.answer key e asks_well found c.run.ran)
            by_desk (found, inr called) =
                one_succeeds o setup journal (record { number = c.number; task = r.task; turn = r.turn; calls = r.calls; answer = r.answer }) asked
                (record { run = c.run; answer_is = c.answer; key = key; keyed = e; desk = record { called = called; found = found } })

    all_found : (before : Counts) (rs : List TaskDone) → Later old before → CausedInTurn before rs new → All (FindsWell o setup journal old new) rs → AreDone o setup limit journal rs → All (IsDoneWell o) rs
    all_found before [] early caused finds done = All-nil (IsDoneWell o)
    all_found before (r ∷ rs) early caused finds done =
        let after : Later before r.counts = (caused.0.faults_later, caused.0.missing_later) in
        let F : TaskDone → Type 0 = FindsWell o setup journal old new in
        All-cons (IsDoneWell o) r rs (one_found r before early caused.0 (caused_later r.counts new rs caused.1) (All-head F r rs finds) done.0)
        (all_found r.counts rs (later_both old before r.counts early after) caused.1 (All-tail F r rs finds) done.1)

  -- ---- the task of a claim

  record Did (t : ℕ) : Type 0 where
    r : TaskDone
    task_is : r.task ≡ t
    done : IsTaskDone o setup limit journal r
    well : IsDoneWell o r

  done_among : (t : ℕ) (rs : List TaskDone) → AreDone o setup limit journal rs → All (IsDoneWell o) rs → list_any (is_of t) (turns_of rs) ≡ true → Did t
  done_among t [] done well h = absurd cc
  done_among t (r ∷ rs) done well h = by_test (r.task == t) refl h (done_among t rs done.1 (All-tail (IsDoneWell o) r rs well))
    where
      by_test : (b : Bool) → (r.task == t) ≡ b → (b || list_any (is_of t) (turns_of rs)) ≡ true
          → (list_any (is_of t) (turns_of rs) ≡ true → Did t) → Did t
      by_test true e k more = record { r = r; task_is = same_number r.task t e; done = done.0; well = All-head (IsDoneWell o) r rs well }
      by_test false e k more = more k

  beyond : (a b : ℕ) → a ≤ b → (a == b) ≡ false → a + 1 ≤ b
  beyond a b l f = grind (arith, nat_tests)

  desks_among : (past entries : List Entry) (k : ℕ) (ds es : List DeskTold) (did : DesksDid o setup limit journal past entries k ds es) → DesksFound o setup limit journal past entries k ds es did
      → (t m : ℕ) → k ≤ m → m < k + length ds → list_any (is_of t) (claims_for m past entries) ≡ true → Did t
  desks_among past entries k [] es did found t m low high h = absurd (let bad : ⊥ = omega (arith, low, high) in bad)
  desks_among past entries k (d ∷ ds) [] did found t m low high h = absurd did
  desks_among past entries k (d ∷ ds) (e ∷ es) did found t m low high h =
      by_either (k == m) here (λ off. desks_among past entries (k + 1) ds es did.1 found.2 t m (beyond k m low off) (omega (arith, high)) h)
    where
      here : (k == m) ≡ true → Did t
      here at =
          let is : m ≡ k = sym (same_number k m at) in
          let claimed : list_any (is_of t) (turns_of did.0.done) ≡ true =
          ap (list_any (is_of t)) (did.0.claimed ∙ ap (λ (n : ℕ). claims_for n past entries) (sym is)) ∙ h in
          done_among t did.0.done did.0.ran (all_found d.counts e.counts found.0 d.counts did.0.done (omega arith, omega arith) did.0.caused found.1 did.0.ran) claimed

-- ---- an answer

stands_any : (p : What → Bool) (xs : List Entry) (w : What) → Stands xs w → p w ≡ true → any p xs ≡ true
stands_any p xs w s h =
    ap (any p) s.is ∙ any-append p s.front (entry s.by w ∷ s.back) ∙ or_right (any p s.front) (p w || any p s.back) (or_left (p w) (any p s.back) h)

-- A run that isn't to be run again is closed by its answer.
run_stands : (journal : List Entry) (t : ℕ) (run : TaskStretch journal t) → run.renewed ≡ false → Stands journal (Answered t run.answer)
run_stands journal t run last = record {
  front = run.past ++ entry run.by (Claim t run.child) ∷ run.within;
  by = run.closed_by;
  back = run.rest;
  is = run.is ∙ ap (λ (b : Bool). run.past ++ entry run.by (Claim t run.child) ∷ run.within ++ entry run.closed_by (closing b t run.answer) ∷ run.rest) last;
}

-- A success isn't that a child was lost.
kept : (work : Work) (answer : Answer) → IsSuccess work answer → is_of_lost_child answer ≡ false
kept work answer (inl e) = ap is_of_lost_child e ∙ of_work work
  where
    of_work : (w : Work) → is_of_lost_child (success_of w) ≡ false
    of_work W.Store = refl
    of_work W.Get = refl
    of_work W.Check = refl
    of_work W.Drop = refl
    of_work W.XStore = refl
    of_work W.XGet = refl
    of_work W.XCheck = refl
    of_work W.XDrop = refl
    of_work W.XRename = refl
kept work answer (inr e) = ap is_of_lost_child e

answer_inside : (t : ℕ) (a b : Answer) → Answered t a ≡ Answered t b → a ≡ b
answer_inside t a b e = cc

pub jobs_complete : JobsComplete
jobs_complete o setup may limit journal desks desks' ran well front rest by t answer task is named = by_done did did.done
  where
    stands : Stands journal (Answered t answer)
    stands = record { front = front; by = by; back = rest; is = is }

    claimed : any (claims t) journal ≡ true
    claimed =
        by_either (any (claims t) journal) (λ h. h)
        (λ h. true_not_false (any (is_of_task t) journal) (stands_any (is_of_task t) journal (Answered t answer) stands (same t)) ((tasks_kept o journal ran.legal).none t (task_number o t task named) h))

    found : IsFound (length desks) [] journal t
    found = claim_found (length desks) [] journal t ran.placed claimed

    did : Did o setup limit journal well.starts well.keys well.children well.asked t
    did =
        let low = found.some in
        let high = found.few in
        desks_among o setup limit journal well.starts well.keys well.children well.asked [] journal 1 desks desks' ran.did well.found t found.desk (omega (arith, low)) (omega (arith, high)) found.claimed

    by_done : (d : Did o setup limit journal well.starts well.keys well.children well.asked t) → IsTaskDone o setup limit journal d.r → IsSuccess task.work answer
    by_done d (inr z) = absurd (none_unserved limit journal d.r.task well.starts well.children d.r.answer z.0)
    by_done d (inl c) =
        let of_task : task_of o d.r.task ≡ Some task = ap (task_of o) d.task_is ∙ named in
        let remains : is_of_lost_child c.run.run.answer ≡ false = ap is_of_lost_child c.answer ∙ kept task.work d.r.answer (d.well task of_task) in
        let last = answered_is_last o journal d.r.task c.run.run (task_number o d.r.task task of_task) ran.legal remains in
        let given : Stands journal (Answered t c.run.run.answer) =
        subst (λ (n : ℕ). Stands journal (Answered n c.run.run.answer)) d.task_is (run_stands journal d.r.task c.run.run last.0) in
        let one : Answered t c.run.run.answer ≡ Answered t answer =
        only_one (answers t) journal (Answered t c.run.run.answer) (Answered t answer) (answered_once o journal ran.legal t) given stands (same t) (same t) in
        let told : d.r.answer ≡ answer = sym c.answer ∙ answer_inside t c.run.run.answer answer one in
        subst (λ (x : Answer). IsSuccess task.work x) told (d.well task of_task)
