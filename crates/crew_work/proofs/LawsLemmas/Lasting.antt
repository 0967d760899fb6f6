-- A run of a task stays in a journal as it was.
use Rattle.std.proofs.Common.{◌≡◌, ℕ, ◌+◌, List, [], ◌∷◌, ◌++◌, refl, sym, ap, subst, ◌∙◌, true, false, not, Option, length, append_assoc}
use Rattle.std.specs.Prelude.{◌||◌}
use Rattle.std.specs.List.{list_any, cons_option}
use Rattle.std.proofs.lemmas.List.Folds.{list_any-append}
use Rattle.journal_model.specs.declared.entry.What.TheVariants.{Claim}
use Rattle.journal_model.specs.declared.entry.Entry.{Entry}
use Rattle.journal_model.specs.declared.opening.Opening.{Opening}
use Rattle.journal_model.specs.Journal.{each_of, is_open}
use Rattle.journal_model.specs.Legality.{job_for, has_open_job}
use Rattle.journal_model.proofs.Looks.{entry, each_of-append}
use Rattle.ann_outside.specs.declared.file_desk.Call.{Call}
use Rattle.task_model.specs.Askers.{Asking, Noting}
use Rattle.task_model.specs.declared.setup.Setup.{Setup}
use Rattle.task_model.specs.Askings.{TaskStretch, closing, past_claim, run_turn, run_askings, run_notings, asking_of, noting_of, notings_from}
use Rattle.task_model.specs.Runs.{TaskRun}
use Rattle.journal_model.proofs.Working.{AllAsked, all_asked, closed_all, SameVerdicts, same_verdicts}
use Rattle.crew_work.specs.Laws.JournalRuns.{JournalRun, is_shut}
use Rattle.std.proofs.lemmas.Bool.{not-true as not_true}
use Rattle.ann_key.proofs.Booleans.{left_false as either_left, right_false as either_right}
use Rattle.task_model.proofs.Askings.{alike, askings_alike}

asked_split : (past : List Entry) (xs ys : List (ℕ × ℕ)) → AllAsked past (xs ++ ys) → AllAsked past xs × AllAsked past ys
asked_split past [] ys h = (tt, h)
asked_split past (x ∷ xs) ys h = (let r = asked_split past xs ys h.1 in ((h.0, r.0), r.1))

-- ---- along a stretch

pub notings_alike : (j k : List Entry) (t : ℕ) (past : List Entry) (behind : ℕ) (xs : List Entry) → SameVerdicts j k (each_of (job_for t) xs)
    → notings_from j t past behind xs ≡ notings_from k t past behind xs
notings_alike j k t past behind [] h = refl
notings_alike j k t past behind (e ∷ xs) h =
    let a = alike j k t past xs e.what h in
    ap (λ (o : Option Asking). cons_option (noting_of t behind e.what) (notings_from j t (past ++ e ∷ []) (behind + length (cons_option o [])) xs)) a.0
    ∙ ap (cons_option (noting_of t behind e.what)) (notings_alike j k t (past ++ e ∷ []) (behind + length (cons_option (asking_of k t past e.what) [])) xs a.1)

-- ---- a run

-- the run in a longer journal
abbrev pub stretch_more : (past more : List Entry) (t : ℕ) → TaskStretch past t → TaskStretch (past ++ more) t
stretch_more past more t run = record {
  past = run.past;
  by = run.by;
  child = run.child;
  within = run.within;
  closed_by = run.closed_by;
  renewed = run.renewed;
  answer = run.answer;
  rest = run.rest ++ more;
  is = ap (λ (x : List Entry). x ++ more) run.is
      ∙ append_assoc (run.past ++ entry run.by (Claim t run.child) ∷ run.within) (entry run.closed_by (closing run.renewed t run.answer) ∷ run.rest) more;
  one = run.one;
}

-- the jobs of a run are among those of its task
module _ (past : List Entry) (t : ℕ) (run : TaskStretch past t) where
  abbrev jobs_within : List (ℕ × ℕ)
  jobs_within = each_of (job_for t) run.within

  abbrev front : List (ℕ × ℕ)
  front = each_of (job_for t) run.past

  abbrev back : List (ℕ × ℕ)
  back = each_of (job_for t) (entry run.closed_by (closing run.renewed t run.answer) ∷ run.rest)

  jobs : each_of (job_for t) past ≡ (front ++ jobs_within) ++ back
  jobs = ap (each_of (job_for t)) run.is
      ∙ each_of-append (job_for t) (run.past ++ entry run.by (Claim t run.child) ∷ run.within) (entry run.closed_by (closing run.renewed t run.answer) ∷ run.rest)
      ∙ ap (λ (x : List (ℕ × ℕ)). x ++ back) (each_of-append (job_for t) run.past (entry run.by (Claim t run.child) ∷ run.within))

  within_asked : AllAsked past jobs_within
  within_asked = (asked_split past front jobs_within (asked_split past (front ++ jobs_within) back (subst (AllAsked past) jobs (all_asked t past))).0).1

  -- where no job of the task is open, none of the run is
  pub run_shut : has_open_job past t ≡ false → is_shut run ≡ true
  run_shut shut = ap not closed
    where
      whole : (list_any (λ q. is_open past q.0 q.1) (front ++ jobs_within) || list_any (λ q. is_open past q.0 q.1) back) ≡ false
      whole = sym (list_any-append (λ (q : ℕ × ℕ). is_open past q.0 q.1) (front ++ jobs_within) back) ∙ ap (list_any (λ (q : ℕ × ℕ). is_open past q.0 q.1)) (sym jobs) ∙ shut

      closed : list_any (λ q. is_open past q.0 q.1) jobs_within ≡ false
      closed =
          either_right (list_any (λ q. is_open past q.0 q.1) front) (list_any (λ q. is_open past q.0 q.1) jobs_within)
          (sym (list_any-append (λ (q : ℕ × ℕ). is_open past q.0 q.1) front jobs_within)
          ∙ either_left (list_any (λ q. is_open past q.0 q.1) (front ++ jobs_within)) (list_any (λ q. is_open past q.0 q.1) back) whole)

  module _ (more : List Entry) (shut : is_shut run ≡ true) where
    within_closed : list_any (λ q. is_open past q.0 q.1) jobs_within ≡ false
    within_closed = not_true (list_any (λ q. is_open past q.0 q.1) jobs_within) shut

    -- they are settled alike in a longer journal
    within_alike : SameVerdicts (past ++ more) past jobs_within
    within_alike = same_verdicts past more jobs_within within_asked within_closed

    -- what a run asked and noted is the same there
    more_asked : run_askings (stretch_more past more t run) ≡ run_askings run
    more_asked = askings_alike (past ++ more) past t (past_claim run) run.within within_alike

    more_noted : run_notings (stretch_more past more t run) ≡ run_notings run
    more_noted = notings_alike (past ++ more) past t (past_claim run) 0 run.within within_alike

    more_shut : is_shut (stretch_more past more t run) ≡ true
    more_shut = ap not (closed_all past more jobs_within within_asked within_closed)

pub run_longer : (o : Opening) (setup : Setup) (calls : List Call) (n t k : ℕ) (past more : List Entry)
    → JournalRun o setup calls n t k past → JournalRun o setup calls n t k (past ++ more)
run_longer o setup calls n t k past more r = record {
  task = r.task;
  is = r.is;
  run = stretch_more past more t r.run;
  by_it = r.by_it;
  turn = r.turn;
  layouts = r.layouts;
  known = r.known;
  ran = subst (λ (xs : List Asking). TaskRun r.task (run_turn r.run) setup r.layouts xs calls (run_notings (stretch_more past more t r.run)) r.run.answer) (sym (more_asked past t r.run more r.shut))
      (subst (λ (xs : List Noting). TaskRun r.task (run_turn r.run) setup r.layouts (run_askings r.run) calls xs r.run.answer) (sym (more_noted past t r.run more r.shut)) r.ran);
  shut = more_shut past t r.run more r.shut;
}

pub run_lasts : (o : Opening) (setup : Setup) (calls : ℕ → ℕ → ℕ → List Call) (n t k : ℕ) (past more : List Entry)
    → JournalRun o setup (calls n t k) n t k past → JournalRun o setup (calls n t k) n t k (past ++ more)
run_lasts o setup calls n t k past more r = run_longer o setup (calls n t k) n t k past more r

-- of the same child, closed alike and with the same answer
pub run_stays : (o : Opening) (setup : Setup) (calls : List Call) (n t k : ℕ) (past more : List Entry) → (r : JournalRun o setup calls n t k past)
    → (s : JournalRun o setup calls n t k (past ++ more)) × (s.run.child ≡ r.run.child) × (s.run.answer ≡ r.run.answer) × (s.run.renewed ≡ r.run.renewed)
unfolding run_longer
run_stays o setup calls n t k past more r = (run_longer o setup calls n t k past more r, refl, refl, refl)
