-- What a claim and an answer come to.
use Rattle.std.proofs.Common.{◌≡◌, ℕ, ◌+◌, ◌<◌, ◌≤◌, List, [], ◌∷◌, ◌++◌, refl, sym, ap, subst, ◌∙◌, Bool, true, false, not, ◌==◌, cond, Some, None, Option, inl, inr, arith, append-nil, zero, suc}
use Rattle.std.specs.Prelude.{◌&&◌, find, Result, Ok, Err}
use Rattle.std.specs.Result.{IsOk}
use Rattle.std.specs.List.{list_all, list_any, range_with_len}
use Rattle.ann_key.specs.declared.bytes.NoMemory.{NoMemory}
use Rattle.journal_model.specs.declared.answer.Answer.{Answer}
use Rattle.journal_model.specs.declared.entry.What.{What}
use Rattle.journal_model.specs.declared.entry.What.TheVariants.{Claim, Answer as Answered, Again}
use Rattle.journal_model.specs.declared.entry.Entry.{Entry}
use Rattle.journal_model.specs.declared.opening.Opening.{Opening}
use Rattle.journal_model.specs.Due.{due_after}
use Rattle.journal_model.specs.Journal.{is_started, open_jobs}
use Rattle.journal_model.specs.Legality.{Legal, both_conflict, has_open_job, is_busy, is_busy_with, is_claimed, is_free, is_held_by, is_held_for, is_prepared, is_run_again, least_free, numbers_of, task_of, turn_of_task}
use Rattle.journal_model.proofs.Holding.{claimed_append, held_claimed, holder_append}
use Rattle.journal_model.proofs.Idling.{claimed_positive}
use Rattle.journal_model.proofs.Looks.{entry}
use Rattle.journal_model.proofs.Testing.{by_either}
use Rattle.journal_model.proofs.Working.{idle_shut, jobs_stay_closed}
use Rattle.host_core.specs.declared.event.Event.TheVariants.{Claim as ClaimEvent, Answer as AnswerEvent}
use Rattle.host_core.specs.declared.event.Reply.{Reply}
use Rattle.host_core.specs.declared.event.Reply.TheVariants.{Wait, NoTask, Done}
use Rattle.host_core.specs.Steps.{Step, step_of, claim, closing as closing_of, only, append, gone, is_gone, are_all_claimed}
use Rattle.child_link.specs.Doors.{Made, Passed, Stepped}
use Rattle.child_link.proofs.Solo.{still_alone}
use Rattle.crew_work.proofs.LawsLemmas.Laboring.{started_lasts}
use Rattle.task_model.specs.declared.turn.TaskTurn.{TaskTurn}
use Rattle.crew_work.specs.Worker.AtTasks.{AtTask, SameTask}
use Rattle.crew_work.specs.Worker.Servings.{HasTurn}
use Rattle.crew_work.specs.Worker.Works.{CanServe, Given, HasClaimed, NoneAtWork, TurnBegun, claimed_of}
use Rattle.crew_work.proofs.WorkerLemmas.Pairs.{passed}
use Rattle.std.proofs.lemmas.Bool.{not-true as not_true, and_parts as both, ne_eqb as differ}
use Rattle.ann_key.proofs.Numbers.{same_number as same}
use Rattle.ann_key.proofs.Booleans.{or_true}
use Rattle.ann_key.proofs.Lists.{found_so as find_holds}
use Rattle.task_model.proofs.Across.{prepared_on}
use Rattle.journal_model.proofs.Across.{idle_on}

-- ---- tasks that are free

-- what is found among the numbers is one of them
pub found_between : (p : ℕ → Bool) (k n t : ℕ) → find p (range_with_len k n) ≡ Some t → (k ≤ t) × (t < k + n)
found_between p k zero t h = absurd cc
found_between p k (suc n) t h = go (p k) h (found_between p (k + 1) n t)
  where
    go : (b : Bool) → cond b (Some k) (find p (range_with_len (k + 1) n)) ≡ Some t → (find p (range_with_len (k + 1) n) ≡ Some t → ((k + 1) ≤ t) × (t < (k + 1) + n))
        → (k ≤ t) × (t < k + suc n)
    go true h r = (let e : k ≡ t = cc in (omega arith, omega arith))
    go false h r = (let s = r h in (omega (arith, s.0), omega (arith, s.1)))

-- a task that is free is one of the run's, and isn't claimed
pub free_unclaimed : (o : Opening) (past : List Entry) (t : ℕ) → least_free o past ≡ Some t → is_claimed past t ≡ false
free_unclaimed o past t h =
    not_true (is_claimed past t)
    (both (not (is_claimed past t)) (not (list_any (λ u. is_busy past u && both_conflict (task_of o u) (task_of o t)) (numbers_of o))) (find_holds (is_free o past) (numbers_of o) t h)).0

-- where no task is busy and none is free, all are claimed
module _ (o : Opening) (past : List Entry) (rest : (t : ℕ) → is_busy past t ≡ false) where
  none_busy : (t : ℕ) (us : List ℕ) → list_any (λ u. is_busy past u && both_conflict (task_of o u) (task_of o t)) us ≡ false
  none_busy t [] = refl
  none_busy t (u ∷ us) = rw (rest u, none_busy t us) refl

  pub claimed_all : (ts : List ℕ) → find (is_free o past) ts ≡ None → list_all (is_claimed past) ts ≡ true
  claimed_all [] h = refl
  claimed_all (t ∷ ts) h =
      go (is_claimed past t) refl (subst (λ (b : Bool). cond (not (is_claimed past t) && not b) (Some t) (find (is_free o past) ts) ≡ None) (none_busy t (numbers_of o)) h) (claimed_all ts)
    where
      go : (b : Bool) → is_claimed past t ≡ b → cond (not b && true) (Some t) (find (is_free o past) ts) ≡ None → (find (is_free o past) ts ≡ None → list_all (is_claimed past) ts ≡ true)
          → (is_claimed past t && list_all (is_claimed past) ts) ≡ true
      go true e k r = rw (e, r k) refl
      go false e k r = absurd cc

-- ---- what stays

pub can_on : {o : Opening} {c : ℕ} (old more : List Entry) {new : List Entry} → new ≡ old ++ more → Legal o new → CanServe o c old → CanServe o c new
can_on {o} {c} old more is legal can = record {
  legal = legal;
  number = can.number;
  started = ap (λ (x : List Entry). is_started x c) is ∙ started_lasts old more c can.started;
  prepared = ap (λ (x : List Entry). is_prepared x c) is ∙ prepared_on old more c can.prepared;
  book = can.book;
}

-- ---- a claim

module _ (o : Opening) (n : ℕ) (a : Bool) (c : ℕ) (past : List Entry) (can : CanServe o c past) (rests : a ≡ true → NoneAtWork c past) (t : ℕ) (least : least_free o past ≡ Some t)
    (legal : Legal o (past ++ entry n (Claim t c) ∷ [])) where
  positive : 0 < t
  positive = claimed_positive o (past ++ entry n (Claim t c) ∷ []) legal t (claimed_append past (entry n (Claim t c) ∷ []) t ∙ (rw (same t) (or_true (is_claimed past t))))

  -- nobody holds a task that is free
  unheld : is_busy past t ≡ false
  unheld = by_either (is_busy past t) (λ held. absurd (let bad : true ≡ false = sym (held_claimed past t held) ∙ free_unclaimed o past t least in cc)) (λ off. off)

  unopened : has_open_job past t ≡ false
  unopened = idle_shut o past can.legal t positive unheld

  abbrev begins : TurnBegun o n a c (record { task = t; turn = turn_of_task past t }) (past ++ entry n (Claim t c) ∷ [])
  begins = record {
    past = past;
    is = refl;
    least = least;
    turn = refl;
    at = record {
      legal = legal;
      held = ap (is_held_by n) (holder_append past (entry n (Claim t c) ∷ []) t) ∙ (rw (same t) (same n));
      shut = jobs_stay_closed past (entry n (Claim t c) ∷ []) t refl unopened;
    };
    can = can_on past (entry n (Claim t c) ∷ []) refl legal can;
    rests = rests;
  }

module _ {o : Opening} {n : ℕ} {a : Bool} (c : ℕ) {old new : List Entry} {reply : Reply} where
  pub has_claimed : CanServe o c old → (a ≡ true → NoneAtWork c old) → Legal o new → Made o n a old new (ClaimEvent c) reply → HasClaimed o n a old new c (claimed_of reply)
  has_claimed can rests legal m = by_gone (is_gone p c) refl
    where
      p : List Entry
      p = m.past

      there : CanServe o c p
      there = can_on old m.passed.others m.passed.is (m.legal can.legal) can

      rests_there : a ≡ true → NoneAtWork c p
      rests_there lone = subst (NoneAtWork c) (sym (still_alone lone m.passed)) (rests lone)

      step : step_of o p n (ClaimEvent c) ≡ cond (is_gone p c) (only (gone p c)) (claim o p n c (least_free o p))
      step =
          let zero_not : (c == 0) ≡ false = differ c 0 (λ e. absurd (omega (arith, e, can.number))) in
          rw (zero_not, there.started, there.prepared) refl

      grown : (s : Step) → step_of o p n (ClaimEvent c) ≡ s → new ≡ p ++ s.group
      grown s is = m.is ∙ ap (λ (x : Step). p ++ x.group) is

      said : (s : Step) → step_of o p n (ClaimEvent c) ≡ s → reply ≡ s.reply
      said s is = m.reply_is ∙ ap (λ (x : Step). x.reply) is

      -- nothing was appended
      quiet : (r : Reply) → step_of o p n (ClaimEvent c) ≡ only r → HasClaimed o n a old p c (claimed_of r) → HasClaimed o n a old new c (claimed_of reply)
      quiet r is h =
          subst (λ (x : Reply). HasClaimed o n a old new c (claimed_of x)) (sym (said (only r) is))
          (subst (λ (x : List Entry). HasClaimed o n a old x c (claimed_of r)) (sym (grown (only r) is ∙ append-nil p)) h)

      by_least : is_gone p c ≡ false → (f : Option ℕ) → least_free o p ≡ f → step_of o p n (ClaimEvent c) ≡ claim o p n c f → HasClaimed o n a old new c (claimed_of reply)
      by_least there_still (Some t) least is =
          let is_new : new ≡ p ++ entry n (Claim t c) ∷ [] = grown (claim o p n c (Some t)) is in
          let u : TaskTurn = record { task = t; turn = turn_of_task p t } in
          subst (λ (x : Reply). HasClaimed o n a old new c (claimed_of x)) (sym (said (claim o p n c (Some t)) is))
          (subst (λ (x : List Entry). (b : TurnBegun o n a c u x) × Passed n a old b.past) (sym is_new) (begins o n a c p there rests_there t least (subst (Legal o) is_new legal), m.passed))
      by_least there_still None least is = by_all (are_all_claimed o p) refl
        where
          -- where nobody else steps the core, all are claimed
          shared : are_all_claimed o p ≡ false → a ≡ false
          shared some = by_either a (λ lone. absurd (let bad : true ≡ false = sym (claimed_all o p (rests_there lone).rest (numbers_of o) least) ∙ some in cc)) (λ off. off)

          by_all : (b : Bool) → are_all_claimed o p ≡ b → HasClaimed o n a old new c (claimed_of reply)
          by_all true all = quiet NoTask (is ∙ (rw all refl)) (m.passed, inl all)
          by_all false all =
              let waits : step_of o p n (ClaimEvent c) ≡ only Wait = is ∙ (rw all refl) in
              quiet Wait waits (
                m.passed,
                record {
                  shared = shared all;
                  more = (all, there_still);
                  waits = record { event = ClaimEvent c; shut = false; reply_is = sym (ap (λ (x : Step). x.reply) waits) };
                },
              )

      by_gone : (b : Bool) → is_gone p c ≡ b → HasClaimed o n a old new c (claimed_of reply)
      by_gone true g = quiet (gone p c) (step ∙ (rw g refl)) (m.passed, inr g)
      by_gone false g = by_least g (least_free o p) refl (step ∙ (rw g refl))

-- where nobody else steps the core, it is the child's turn
pub begun_turn : {o : Opening} {n : ℕ} {a : Bool} {c : ℕ} {u : TaskTurn} {seen : List Entry} → TurnBegun o n a c u seen → a ≡ true → HasTurn seen c u.task
begun_turn {o} {n} {a} {c} {u} {seen} b lone = record {
  prepared = b.can.prepared;
  busy = ap (λ (x : List Entry). is_busy_with x c u.task) b.is ∙ ap (is_held_for c) (holder_append b.past (entry n (Claim u.task c) ∷ []) u.task) ∙ (rw (same u.task) (same c));
  idle = ap (λ (x : List Entry). open_jobs x c) b.is ∙ idle_on b.past (entry n (Claim u.task c) ∷ []) c refl (b.rests lone).idle;
}

-- ---- an answer

pub gives_now : {o : Opening} {n t : ℕ} {a : Bool} {old new : List Entry} {reply : Reply} (answer : Answer) → AtTask o n t old → Made o n a old new (AnswerEvent t answer) reply
    → Given o n a old new t answer
gives_now {o} {n} {t} {a} {old} {new} {reply} answer at m = by_again (is_run_again o m.past t answer) refl
  where
    before : SameTask o n t old m.past
    before = passed o n t at (m.legal at.legal) m.passed

    step : step_of o m.past n (AnswerEvent t answer) ≡ append o m.past n (closing_of o m.past t answer) Done
    step = rw (before.at.held, before.at.shut) refl

    grown : (w : What) → closing_of o m.past t answer ≡ w → new ≡ m.past ++ entry n w ∷ due_after o m.past (entry n w)
    grown w is = m.is ∙ ap (λ (s : Step). m.past ++ s.group) step ∙ ap (λ (v : What). m.past ++ (append o m.past n v Done).group) is

    by_again : (b : Bool) → is_run_again o m.past t answer ≡ b → Given o n a old new t answer
    by_again true e = record {
      again = true;
      is = record { past = m.past; passed = m.passed; legal = m.legal; found = before.at; is = grown (Again t answer) (rw e refl) };
      where_may = e;
    }
    by_again false e = record {
      again = false;
      is = record { past = m.past; passed = m.passed; legal = m.legal; found = before.at; is = grown (Answered t answer) (rw e refl) };
      where_may = e;
    }

-- the answer takes no memory, so it is given
pub gives : {o : Opening} {n t : ℕ} {a : Bool} {old new : List Entry} (answer : Answer) (result : Result Reply NoMemory) → AtTask o n t old → IsOk result
    → Stepped o n a old new (AnswerEvent t answer) result → Given o n a old new t answer
gives answer (Ok reply) at ok m = gives_now answer at m
gives answer (Err e) at ok m = (let bad : false ≡ true = ok in absurd cc)
