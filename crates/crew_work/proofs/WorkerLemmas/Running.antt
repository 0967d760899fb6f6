-- A task that was claimed, run and answered, or left to be run again, has its run in the journal.
use Rattle.std.proofs.Common.{◌≡◌, ℕ, ◌+◌, List, [], ◌∷◌, ◌++◌, refl, sym, ap, subst, ◌∙◌, Bool, true, false, ◌==◌, cond, Some, None, Option, arith, append_assoc, append-nil, length}
use Rattle.std.specs.Prelude.{◌||◌, map, Result, Ok, Err, is_some}
use Rattle.std.specs.List.{cons_option}
use Rattle.std.proofs.lemmas.List.{append_cancel_left}
use Rattle.ann_key.specs.declared.bytes.NoMemory.{NoMemory}
use Rattle.task_text.specs.declared.task.Task.{Task}
use Rattle.ann_outside.specs.declared.file_desk.Call.{Call}
use Rattle.ann_outside.specs.DeskCauses.{Counts}
use Rattle.journal_model.specs.declared.answer.Answer.{Answer}
use Rattle.journal_model.specs.declared.holder.Holder.{Holder}
use Rattle.journal_model.specs.declared.entry.What.{What}
use Rattle.journal_model.specs.declared.entry.What.TheVariants.{Claim, Note, Answer as Answered, Again}
use Rattle.journal_model.specs.declared.entry.Entry.{Entry}
use Rattle.journal_model.specs.declared.opening.Opening.{Opening}
use Rattle.journal_model.specs.Journal.{any, asked_jobs}
use Rattle.journal_model.specs.Legality.{Legal, claims, closes, has_open_job, holder, is_busy, is_claimed_by, job_for, task_of, turn_of_task, turned_by}
use Rattle.journal_model.specs.Notes.{AreCurrentAt}
use Rattle.journal_model.specs.Shares.{are_by, makes_only}
use Rattle.journal_model.proofs.Holding.{claimed, closed, holder_append}
use Rattle.journal_model.proofs.Looks.{entry}
use Rattle.journal_model.proofs.Unbounded.{Within, bounds, held_positive, none_by, unbounded}
use Rattle.journal_model.proofs.Working.{jobs_stay_closed}
use Rattle.task_model.specs.Askers.{Asking, Noting}
use Rattle.task_model.specs.declared.setup.Setup.{Setup}
use Rattle.task_model.specs.Askings.{TaskStretch, asking_of, askings, askings_from, bounds_run, closing, noting_of, notings_from, run_askings, run_notings, run_turn}
use Rattle.task_model.specs.declared.turn.TaskTurn.{TaskTurn}
use Rattle.task_model.specs.Ran.{HasTaskCauses, answered, behind_more}
use Rattle.task_model.specs.Runs.{TaskRun}
use Rattle.task_model.proofs.Askings.{asks_for, askings-append, askings_from-append, askings_from-none, askings-unasked}
use Rattle.crew_work.specs.Worker.AtTasks.{notings}
use Rattle.crew_work.specs.Worker.Servings.{HasTurn, by_server}
use Rattle.crew_work.proofs.WorkerLemmas.Noted.{notes_for, notings-append, notings_from-append, notings_from-none, notings-unnoted}
use Rattle.crew_work.proofs.WorkerLemmas.Serving.{gives_none, held_on, server_claims, server_closes}
use Rattle.crew_work.specs.Laws.JournalRuns.{JournalRun}
use Rattle.crew_work.proofs.LawsLemmas.Lasting.{run_shut}
use Rattle.crew_work.specs.Worker.Works.{NoneAtWork, RanFor}
use Rattle.ann_key.proofs.Booleans.{or_neither as neither, left_false as either_left, right_false as either_right}
use Rattle.journal_model.proofs.Across.{idle_on}

-- ---- entries of a task

closing_asks : (again : Bool) (t : ℕ) (answer : Answer) → asks_for t (closing again t answer) ≡ false
closing_asks true t answer = refl
closing_asks false t answer = refl

closing_notes : (again : Bool) (t : ℕ) (answer : Answer) → notes_for t (closing again t answer) ≡ false
closing_notes true t answer = refl
closing_notes false t answer = refl

closing_no_job : (again : Bool) (t : ℕ) (answer : Answer) → job_for t (closing again t answer) ≡ None
closing_no_job true t answer = refl
closing_no_job false t answer = refl

-- ---- while a number holds a task, and begins and closes no run of it, nobody does

-- the two kinds, and both
none_bounds_of : (t : ℕ) (xs : List Entry) → any (claims t) xs ≡ false → any (closes t) xs ≡ false → any (bounds_run t) xs ≡ false
none_bounds_of t [] c k = refl
none_bounds_of t (e ∷ xs) c k = one e.what c k (none_bounds_of t xs)
  where
    one : (w : What) → (claims t w || any (claims t) xs) ≡ false → (closes t w || any (closes t) xs) ≡ false
        → (any (claims t) xs ≡ false → any (closes t) xs ≡ false → any (bounds_run t) xs ≡ false) → (bounds_run t w || any (bounds_run t) xs) ≡ false
    one (Claim task child) c k r = neither (task == t) (any (bounds_run t) xs) (either_left (task == t) (any (claims t) xs) c) (r (either_right (task == t) (any (claims t) xs) c) k)
    one (Answered task answer) c k r = neither (task == t) (any (bounds_run t) xs) (either_left (task == t) (any (closes t) xs) k) (r c (either_right (task == t) (any (closes t) xs) k))
    one (Again task answer) c k r = neither (task == t) (any (bounds_run t) xs) (either_left (task == t) (any (closes t) xs) k) (r c (either_right (task == t) (any (closes t) xs) k))
    one w c k r = r c k

pub none_bounds : (o : Opening) (n t : ℕ) (p : What → Bool) → Within p t → (seen more : List Entry) → Legal o (seen ++ more)
    → is_claimed_by seen n t ≡ true → makes_only p n more ≡ true → any (bounds_run t) more ≡ false
none_bounds o n t p within seen more legal held own =
    let none = unbounded o seen more n t (held_positive o seen more n t legal held) legal held
    (none_by p (bounds t) (λ w made. neither (claims t w) (closes t w) (within.unclaimed w made) (within.unclosed w made)) n more own) in
    none_bounds_of t more none.0 none.1

-- ---- notes after more requests

-- notes that are counted from another begin
behind_again : (j : List Entry) (t : ℕ) (past : List Entry) (n behind : ℕ) (xs : List Entry) → notings_from j t past (n + behind) xs ≡ map (behind_more n) (notings_from j t past behind xs)
behind_again j t past n behind [] = refl
behind_again j t past n behind (e ∷ xs) =
    let k : ℕ = length (cons_option (asking_of j t past e.what) []) in
    let so : (n + behind) + k ≡ n + (behind + k) = omega arith in
    ap (λ (b : ℕ). cons_option (noting_of t (n + behind) e.what) (notings_from j t (past ++ e ∷ []) b xs)) so
    ∙ ap (cons_option (noting_of t (n + behind) e.what)) (behind_again j t (past ++ e ∷ []) n (behind + k) xs)
    ∙ one e.what (notings_from j t (past ++ e ∷ []) (behind + k) xs)
  where
    by_test : (b : Bool) (chunk count : ℕ) (rest : List Noting)
        → cons_option (cond b (Some (record { chunk = chunk; count = count; behind = n + behind })) None) (map (behind_more n) rest)
        ≡ map (behind_more n) (cons_option (cond b (Some (record { chunk = chunk; count = count; behind = behind })) None) rest)
    by_test true chunk count rest = refl
    by_test false chunk count rest = refl

    one : (w : What) (rest : List Noting) → cons_option (noting_of t (n + behind) w) (map (behind_more n) rest) ≡ map (behind_more n) (cons_option (noting_of t behind w) rest)
    one (Note task chunk count) rest = by_test (task == t) chunk count rest
    one w rest = refl

same_behind : (n : ℕ) (xs ys : List Noting) → map (behind_more n) xs ≡ map (behind_more n) ys → xs ≡ ys
same_behind n [] [] h = refl
same_behind n [] (y ∷ ys) h = absurd cc
same_behind n (x ∷ xs) [] h = absurd cc
same_behind n (x ∷ xs) (y ∷ ys) h =
    let e : behind_more n x ∷ map (behind_more n) xs ≡ behind_more n y ∷ map (behind_more n) ys = h in
    let first : behind_more n x ≡ behind_more n y = cc in
    let rest : map (behind_more n) xs ≡ map (behind_more n) ys = cc in
    let chunk : x.chunk ≡ y.chunk = ap (λ (r : Noting). r.chunk) first in
    let count : x.count ≡ y.count = ap (λ (r : Noting). r.count) first in
    let sum : n + x.behind ≡ n + y.behind = ap (λ (r : Noting). r.behind) first in
    let behind : x.behind ≡ y.behind = omega (arith, sum) in
    let tail : xs ≡ ys = same_behind n xs ys rest in
    ap (λ (k : ℕ). record { chunk = k; count = x.count; behind = x.behind } ∷ xs) chunk
    ∙ ap (λ (k : ℕ). record { chunk = y.chunk; count = k; behind = x.behind } ∷ xs) count
    ∙ ap (λ (k : ℕ). record { chunk = y.chunk; count = y.count; behind = k } ∷ xs) behind
    ∙ ap (λ (l : List Noting). y ∷ l) tail

-- ---- the run

module _ (o : Opening) (setup : Setup) (task : Task) (n c : ℕ) (u : TaskTurn) (past within : List Entry) (again : Bool) (answer : Answer) where
  abbrev begun : List Entry
  begun = past ++ entry n (Claim u.task c) ∷ []

  abbrev came : List Entry
  came = begun ++ within

  abbrev last : List Entry
  last = entry n (closing again u.task answer) ∷ []

  abbrev ended : List Entry
  ended = came ++ last

  -- the run asked what the journal has of the task more than when it was claimed
  asked_since : (asked : List Asking) → has_open_job begun u.task ≡ false → has_open_job came u.task ≡ false → askings came u.task ≡ askings begun u.task ++ asked → askings_from ended u.task begun within ≡ asked
  asked_since asked unopened shut pairs_are =
      append_cancel_left (askings begun u.task) (askings_from ended u.task begun within) asked
      (sym (askings-append begun (within ++ last) u.task unopened
      ∙ ap (λ (x : List Asking). askings begun u.task ++ x) split)
      ∙ ap (λ (x : List Entry). askings x u.task) (sym (append_assoc begun within last))
      ∙ askings-unasked came last u.task shut (rw (closing_asks again u.task answer) refl)
      ∙ pairs_are)
    where
      split : askings_from (begun ++ (within ++ last)) u.task begun (within ++ last) ≡ askings_from ended u.task begun within
      split = ap (λ (x : List Entry). askings_from x u.task begun (within ++ last)) (sym (append_assoc begun within last))
          ∙ askings_from-append ended u.task begun within last
          ∙ ap (λ (x : List Asking). askings_from ended u.task begun within ++ x) (askings_from-none ended u.task (begun ++ within) last (rw (closing_asks again u.task answer) refl))
          ∙ append-nil (askings_from ended u.task begun within)

  noted_since : (noted : List Noting) → has_open_job begun u.task ≡ false → has_open_job came u.task ≡ false
      → notings came u.task ≡ notings begun u.task ++ map (behind_more (length (askings begun u.task))) noted → notings_from ended u.task begun 0 within ≡ noted
  noted_since noted unopened shut notes_are =
      same_behind (length (askings begun u.task)) (notings_from ended u.task begun 0 within) noted
      (sym (behind_again ended u.task begun (length (askings begun u.task)) 0 within)
      ∙ ap (λ (b : ℕ). notings_from ended u.task begun b within) more
      ∙ append_cancel_left (notings begun u.task) (notings_from ended u.task begun (length (askings begun u.task)) within) (map (behind_more (length (askings begun u.task))) noted)
      (sym (notings-append begun (within ++ last) u.task unopened
      ∙ ap (λ (x : List Noting). notings begun u.task ++ x) split)
      ∙ ap (λ (x : List Entry). notings x u.task) (sym (append_assoc begun within last))
      ∙ notings-unnoted came last u.task shut (rw (closing_notes again u.task answer) refl)
      ∙ notes_are))
    where
      more : length (askings begun u.task) + 0 ≡ length (askings begun u.task)
      more = omega arith

      split : notings_from (begun ++ (within ++ last)) u.task begun (length (askings begun u.task)) (within ++ last) ≡ notings_from ended u.task begun (length (askings begun u.task)) within
      split = ap (λ (x : List Entry). notings_from x u.task begun (length (askings begun u.task)) (within ++ last)) (sym (append_assoc begun within last))
          ∙ notings_from-append ended u.task begun (length (askings begun u.task)) within last
          ∙ ap (λ (x : List Noting). notings_from ended u.task begun (length (askings begun u.task)) within ++ x)
          (notings_from-none ended u.task (begun ++ within) (length (askings begun u.task) + length (askings_from ended u.task begun within)) last (rw (closing_notes again u.task answer) refl))
          ∙ append-nil (notings_from ended u.task begun (length (askings begun u.task)) within)

  -- since its claim, where no job of the task was open, the task asked and noted what its run did, and no run of it was begun or closed
  pub journal_run : task_of o u.task ≡ Some task → turn_of_task past u.task ≡ u.turn → (layouts : List (ℕ × ℕ)) (asked : List Asking) (calls : List Call) (noted : List Noting) → AreCurrentAt o past task.key layouts
      → askings came u.task ≡ askings begun u.task ++ asked → notings came u.task ≡ notings begun u.task ++ map (behind_more (length (askings begun u.task))) noted → TaskRun task u setup layouts asked calls noted answer
      → has_open_job begun u.task ≡ false → has_open_job came u.task ≡ false → any (bounds_run u.task) within ≡ false → RanFor o setup calls n c u answer ended
  journal_run is turn layouts asked calls noted known pairs_are notes_are ran unopened shut one = record { run = whole; child = refl; answer_is = refl }
    where
      run : TaskStretch ended u.task
      run = record {
        past = past;
        by = n;
        child = c;
        within = within;
        closed_by = n;
        renewed = again;
        answer = answer;
        rest = [];
        is = ap (λ (x : List Entry). x ++ last) (append_assoc past (entry n (Claim u.task c) ∷ []) within);
        one = one;
      }

      of_turn : u ≡ run_turn run
      of_turn = ap (λ (k : ℕ). record { task = u.task; turn = k }) (sym turn)

      whole : JournalRun o setup calls n u.task u.turn ended
      whole = record {
        task = task;
        is = is;
        run = run;
        by_it = refl;
        turn = turn;
        layouts = layouts;
        known = known;
        ran = subst (λ (v : TaskTurn). TaskRun task v setup layouts (run_askings run) calls (run_notings run) answer) of_turn
            (subst (λ (xs : List Asking). TaskRun task u setup layouts xs calls (run_notings run) answer) (sym (asked_since asked unopened shut pairs_are))
            (subst (λ (xs : List Noting). TaskRun task u setup layouts asked calls xs answer) (sym (noted_since noted unopened shut notes_are)) ran));
        shut = run_shut ended u.task run (jobs_stay_closed came last u.task (rw (closing_no_job again u.task answer) refl) shut);
      }

-- ---- after the run

module _ (n c t : ℕ) (past within : List Entry) (renewed : Bool) (answer : Answer) (rest : (v : ℕ) → is_busy past v ≡ false) (own : makes_only (by_server c t) n within ≡ true) (by : are_by n within ≡ true) where
  abbrev claimed_now : List Entry
  claimed_now = past ++ entry n (Claim t c) ∷ []

  abbrev ran_now : List Entry
  ran_now = claimed_now ++ within

  abbrev closed_now : List Entry
  closed_now = ran_now ++ entry n (closing renewed t answer) ∷ []

  -- no task is busy
  none_held : (v : ℕ) → is_busy closed_now v ≡ false
  none_held v = ap is_some (holder_append ran_now (entry n (closing renewed t answer) ∷ []) v) ∙ by_renewed renewed
    where
      held : holder ran_now v ≡ holder claimed_now v
      held = held_on claimed_now within v (gives_none (by_server c t) claimed (server_claims c t) n within own by) (gives_none (by_server c t) closed (server_closes c t) n within own by)

      go : (b : Bool) → (t == v) ≡ b → is_some (cond {A = Option Holder} b None (holder ran_now v)) ≡ false
      go true e = refl
      go false e = ap is_some held ∙ ap is_some (holder_append past (entry n (Claim t c) ∷ []) v) ∙ (rw e (rest v))

      by_renewed : (b : Bool) → is_some (turned_by v (holder ran_now v) n (closing b t answer)) ≡ false
      by_renewed true = go (t == v) refl
      by_renewed false = go (t == v) refl

  pub rests_again : HasTurn ran_now c t → NoneAtWork c closed_now
  rests_again turn = record { idle = idle_on ran_now (entry n (closing renewed t answer) ∷ []) c (closing_asks_none renewed) turn.idle; rest = none_held }
    where
      closing_asks_none : (b : Bool) → asked_jobs (entry n (closing b t answer) ∷ []) c ≡ []
      closing_asks_none true = refl
      closing_asks_none false = refl

-- running out of memory is an answer that no refusal of the desk gives
pub causes_answered : (old new : Counts) (result : Result Answer NoMemory) → HasTaskCauses old new result → HasTaskCauses old new (Ok (answered result))
causes_answered old new (Ok answer) h = h
causes_answered old new (Err e) h = record {
  faults_later = h.faults_later;
  missing_later = h.missing_later;
  fault = λ is. absurd cc;
  no_file = λ is. absurd cc;
  untold = λ is. h.untold refl;
}
