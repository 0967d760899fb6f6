-- A task that is claimed without a child, and its answer.
use Rattle.std.proofs.Common.{◌≡◌, ℕ, ◌<◌, List, [], ◌∷◌, ◌++◌, refl, sym, ap, subst, ◌∙◌, append_assoc, append-nil, Bool, true, false, not, ◌==◌, cond, Some, None, Option, arith, length}
use Rattle.std.specs.Prelude.{◌&&◌, ◌||◌, if◌then◌else◌, nat_lt, is_some, filter, fold}
use Rattle.std.specs.List.{last_or, cons_option, list_all}
use Rattle.journal_model.specs.declared.answer.Answer.{Answer}
use Rattle.journal_model.specs.declared.answer.Answer.TheVariants.{Memory, NoChild}
use Rattle.journal_model.specs.declared.entry.What.{What}
use Rattle.journal_model.specs.declared.entry.What.TheVariants.{Claim, Answer as Answered, Again}
use Rattle.journal_model.specs.declared.entry.Entry.{Entry}
use Rattle.journal_model.specs.declared.opening.Opening.{Opening}
use Rattle.journal_model.specs.Journal.{any, each_of}
use Rattle.journal_model.specs.Legality.{Legal, count, has_open_job, holder, is_busy, is_claimed, is_claimed_by, is_held_by, is_held_over_child, is_of_lost_child, is_run_again, least_free, may_come, numbers_of, renews, turn_of_task, turned}
use Rattle.journal_model.specs.Room.{claims_left}
use Rattle.journal_model.proofs.Holding.{claimed_append, due_names, holder_append}
use Rattle.journal_model.proofs.Growing.{Legal-induction}
use Rattle.journal_model.specs.Due.{due_after}
use Rattle.journal_model.proofs.Holders.{turn_stays}
use Rattle.journal_model.proofs.Idling.{claimed_positive}
use Rattle.journal_model.proofs.Looks.{any-append, each_of-append}
use Rattle.journal_model.proofs.Testing.{all-join}
use Rattle.journal_model.proofs.Working.{idle_shut, jobs_stay_closed}
use Rattle.host_core.specs.declared.event.Event.TheVariants.{Claim as ClaimEvent}
use Rattle.host_core.specs.declared.event.Reply.{Reply}
use Rattle.host_core.specs.declared.event.Reply.TheVariants.{NoTask}
use Rattle.host_core.specs.Steps.{Step, are_all_claimed, claim, closing as closing_of, may_answer, only, step_of}
use Rattle.task_model.specs.declared.turn.TaskTurn.{TaskTurn}
use Rattle.crew_work.proofs.WorkerLemmas.Claiming.{claimed_all}
use Rattle.crew_work.proofs.WorkerLemmas.Working.{fewer_left}
use Rattle.run_starts.specs.Rounds.{again_of, ends_for_memory, last_again, left_answer, or_unserved, unserved_answer}
use Rattle.run_starts.specs.Stints.{AnswersLeft, AnswersOne, ClaimsZero, answered_so, main_entry, task_in}
use Rattle.std.proofs.lemmas.Bool.{and_parts as both}
use Rattle.ann_key.proofs.Numbers.{same_number as same}
use Rattle.ann_key.proofs.Booleans.{or_false, or_true}

-- ---- the claim

module _ (o : Opening) (old new : List Entry) (rest : (t : ℕ) → is_busy old t ≡ false) where
  step_is : step_of o old 0 (ClaimEvent 0) ≡ claim o old 0 0 (least_free o old)
  step_is = refl

  pub claims_zero : (reply : Reply) → reply ≡ (step_of o old 0 (ClaimEvent 0)).reply → new ≡ old ++ (step_of o old 0 (ClaimEvent 0)).group → ClaimsZero o old new (task_in reply)
  claims_zero reply said is = by_least (least_free o old) refl
    where
      by_least : (f : Option ℕ) → least_free o old ≡ f → ClaimsZero o old new (task_in reply)
      by_least (Some t) e =
          subst (λ (r : Reply). ClaimsZero o old new (task_in r)) (sym (said ∙ ap (λ (f : Option ℕ). (claim o old 0 0 f).reply) e))
          (e, refl, is ∙ ap (λ (f : Option ℕ). old ++ (claim o old 0 0 f).group) e)
      by_least None e =
          let all : are_all_claimed o old ≡ true = claimed_all o old rest (numbers_of o) e in
          let none : claim o old 0 0 None ≡ only NoTask = rw all refl in
          subst (λ (r : Reply). ClaimsZero o old new (task_in r)) (sym (said ∙ ap (λ (f : Option ℕ). (claim o old 0 0 f).reply) e ∙ ap (λ (s : Step). s.reply) none))
          (is ∙ ap (λ (f : Option ℕ). old ++ (claim o old 0 0 f).group) e ∙ ap (λ (s : Step). old ++ s.group) none ∙ append-nil old, all)

-- ---- the answer

module _ (o : Opening) (old mid : List Entry) (t : ℕ) (legal : Legal o old) (rest : (u : ℕ) → is_busy old u ≡ false) (is : mid ≡ old ++ main_entry (Claim t 0) ∷ []) (legal' : Legal o mid) where
  abbrev claimed_now : List Entry
  claimed_now = old ++ main_entry (Claim t 0) ∷ []

  positive : 0 < t
  positive = claimed_positive o claimed_now (subst (Legal o) is legal') t (claimed_append old (main_entry (Claim t 0) ∷ []) t ∙ (rw (same t) (or_true (is_claimed old t))))

  unopened : has_open_job old t ≡ false
  unopened = idle_shut o old legal t positive (rest t)

  held_now : holder claimed_now t ≡ Some (record { by = 0; child = 0 })
  held_now = holder_append old (main_entry (Claim t 0) ∷ []) t ∙ (rw (same t) refl)

  pub may_give : may_answer mid 0 t ≡ true
  may_give =
      let held : is_claimed_by claimed_now 0 t ≡ true = ap (is_held_by 0) held_now in
      let shut : has_open_job claimed_now t ≡ false = jobs_stay_closed old (main_entry (Claim t 0) ∷ []) t refl unopened in
      ap (λ (j : List Entry). may_answer j 0 t) is ∙ (rw (held, shut) refl)

  pub held_alone : is_held_over_child (holder mid t) ≡ false
  held_alone = ap is_held_over_child (ap (λ (j : List Entry). holder j t) is ∙ held_now)

-- without a child the task isn't run again
pub gives_alone : (o : Opening) (old : List Entry) (t : ℕ) (answer : Answer) → is_held_over_child (holder old t) ≡ false → closing_of o old t answer ≡ Answered t answer
gives_alone o old t answer alone = go (is_of_lost_child answer)
  where
    go : (b : Bool) → (if (b && is_held_over_child (holder old t) && nat_lt (count (renews t) old) o.again) then Again t answer else Answered t answer) ≡ Answered t answer
    go true = rw alone refl
    go false = refl

-- one task
pub answers_one : (o : Opening) (old mid new : List Entry) (t : ℕ) (answer : ℕ → Answer) → least_free o old ≡ Some t → mid ≡ old ++ main_entry (Claim t 0) ∷ [] → new ≡ mid ++ main_entry (Answered t (answer t)) ∷ []
    → AnswersOne o old new answer true
answers_one o old mid new t answer least is given =
    (t, least, given ∙ ap (λ (x : List Entry). x ++ main_entry (Answered t (answer t)) ∷ []) is ∙ append_assoc old (main_entry (Claim t 0) ∷ []) (main_entry (Answered t (answer t)) ∷ []))

-- ---- no task is busy after it

pub rests_one : (past : List Entry) (t : ℕ) (answer : Answer) → ((u : ℕ) → is_busy past u ≡ false) → (u : ℕ) → is_busy (past ++ main_entry (Claim t 0) ∷ main_entry (Answered t answer) ∷ []) u ≡ false
rests_one past t answer rest u = ap is_some (holder_append past (main_entry (Claim t 0) ∷ main_entry (Answered t answer) ∷ []) u) ∙ go (t == u) refl
  where
    go : (b : Bool) → (t == u) ≡ b → is_some (fold (turned u) (holder past u) (main_entry (Claim t 0) ∷ main_entry (Answered t answer) ∷ [])) ≡ false
    go true e = rw e refl
    go false e = rw e (rest u)

-- ---- and fewer are left

pub fewer_now : (o : Opening) (old new : List Entry) (t : ℕ) (answer : Answer) → Legal o new → new ≡ old ++ main_entry (Claim t 0) ∷ main_entry (Answered t answer) ∷ []
    → claims_left o new < claims_left o old
fewer_now o old new t answer legal is =
    fewer_left o old new (main_entry (Answered t answer) ∷ []) 0 0 t legal (is ∙ sym (append_assoc old (main_entry (Claim t 0) ∷ []) (main_entry (Answered t answer) ∷ [])))

-- ---- one after the other

pub left_more : (answer : ℕ → Answer) (ts : List ℕ) (t : ℕ) → answered_so answer (ts ++ t ∷ []) ≡ answered_so answer ts ++ main_entry (Claim t 0) ∷ main_entry (Answered t (answer t)) ∷ []
left_more answer [] t = refl
left_more answer (u ∷ ts) t = ap (λ (x : List Entry). main_entry (Claim u 0) ∷ main_entry (Answered u (answer u)) ∷ x) (left_more answer ts t)

-- what was answered so far
pub record HasLeft (old new : List Entry) (answer : ℕ → Answer) : Type 0 where
  pub tasks : List ℕ
  pub is : new ≡ old ++ answered_so answer tasks

pub left_then : (o : Opening) (old mid new : List Entry) (answer : ℕ → Answer) → HasLeft old mid answer → (a : AnswersOne o mid new answer true) → HasLeft old new answer
left_then o old mid new answer h a = record {
  tasks = h.tasks ++ a.0 ∷ [];
  is = a.2 ∙ ap (λ (x : List Entry). x ++ main_entry (Claim a.0 0) ∷ main_entry (Answered a.0 (answer a.0)) ∷ []) h.is
      ∙ append_assoc old (answered_so answer h.tasks) (main_entry (Claim a.0 0) ∷ main_entry (Answered a.0 (answer a.0)) ∷ [])
      ∙ ap (λ (x : List Entry). old ++ x) (sym (left_more answer h.tasks a.0));
}

pub left_over : (o : Opening) (old mid new : List Entry) (answer : ℕ → Answer) → HasLeft old mid answer → AnswersOne o mid new answer false → AnswersLeft o old new answer
left_over o old mid new answer h a = record {
  tasks = h.tasks;
  is = a.0 ∙ h.is;
  all = ap (are_all_claimed o) a.0 ∙ a.1;
}

-- ---- what was answered so far is no Again, and ends no child

unrenewed : (answer : ℕ → Answer) (t : ℕ) (ts : List ℕ) → each_of (again_of t) (answered_so answer ts) ≡ []
unrenewed answer t [] = refl
unrenewed answer t (u ∷ ts) = unrenewed answer t ts

unended : (answer : ℕ → Answer) (ts : List ℕ) → any ends_for_memory (answered_so answer ts) ≡ false
unended answer [] = refl
unended answer (u ∷ ts) = unended answer ts

pub unserved_still : (past : List Entry) (answer : ℕ → Answer) (ts : List ℕ) → unserved_answer (past ++ answered_so answer ts) ≡ unserved_answer past
unserved_still past answer ts =
    ap (λ (b : Bool). cond b Memory NoChild) (any-append ends_for_memory past (answered_so answer ts) ∙ ap (λ (b : Bool). any ends_for_memory past || b) (unended answer ts) ∙ or_false (any ends_for_memory past))

again_still : (past : List Entry) (answer : ℕ → Answer) (ts : List ℕ) (t : ℕ) → last_again (past ++ answered_so answer ts) t ≡ last_again past t
again_still past answer ts t =
    ap (λ (l : List Answer). last_or None l)
    (each_of-append (again_of t) past (answered_so answer ts) ∙ ap (λ (l : List Answer). each_of (again_of t) past ++ l) (unrenewed answer t ts) ∙ append-nil (each_of (again_of t) past))

pub left_still : (past : List Entry) (answer : ℕ → Answer) (ts : List ℕ) (t : ℕ) → left_answer (past ++ answered_so answer ts) t ≡ left_answer past t
left_still past answer ts t = go (last_again past t) (again_still past answer ts t)
  where
    go : (a : Option Answer) → last_again (past ++ answered_so answer ts) t ≡ a → or_unserved (last_again (past ++ answered_so answer ts) t) (past ++ answered_so answer ts) ≡ or_unserved a past
    go (Some x) e = rw e refl
    go None e = rw e (unserved_still past answer ts)

-- one answer for another
pub answers_as : (o : Opening) (old new : List Entry) (f g : ℕ → Answer) (b : Bool) → ((t : ℕ) → f t ≡ g t) → AnswersOne o old new f b → AnswersOne o old new g b
answers_as o old new f g true same a = (a.0, a.1, a.2 ∙ ap (λ (x : Answer). old ++ main_entry (Claim a.0 0) ∷ main_entry (Answered a.0 x) ∷ []) (same a.0))
answers_as o old new f g false same a = a

-- ---- after a claim without a child

pub claim_turned : (old mid : List Entry) (u : TaskTurn) → u.turn ≡ turn_of_task old u.task → mid ≡ old ++ main_entry (Claim u.task 0) ∷ [] → u.turn ≡ turn_of_task mid u.task
claim_turned old mid u turn is = turn ∙ sym (turn_stays old (main_entry (Claim u.task 0) ∷ []) u.task refl) ∙ ap (λ (j : List Entry). turn_of_task j u.task) (sym is)

pub claim_unserved : (old mid : List Entry) (t : ℕ) → mid ≡ old ++ main_entry (Claim t 0) ∷ [] → unserved_answer mid ≡ unserved_answer old
claim_unserved old mid t is =
    ap unserved_answer is ∙ ap (λ (b : Bool). cond b Memory NoChild) (any-append ends_for_memory old (main_entry (Claim t 0) ∷ []) ∙ or_false (any ends_for_memory old))

pub claim_left : (old mid : List Entry) (t : ℕ) → mid ≡ old ++ main_entry (Claim t 0) ∷ [] → left_answer mid t ≡ left_answer old t
claim_left old mid t is = go (last_again old t) again
  where
    again : last_again mid t ≡ last_again old t
    again = ap (λ (j : List Entry). last_again j t) is
        ∙ ap (λ (l : List Answer). last_or None l) (each_of-append (again_of t) old (main_entry (Claim t 0) ∷ []) ∙ append-nil (each_of (again_of t) old))

    go : (a : Option Answer) → last_again mid t ≡ a → or_unserved (last_again mid t) mid ≡ or_unserved a old
    go (Some x) e = rw e refl
    go None e = rw e (claim_unserved old mid t is)

-- ---- a task's last Again

-- a task in its first turn has none
pub first_turn : (past : List Entry) (t : ℕ) → turn_of_task past t ≡ 1 → last_again past t ≡ None
first_turn past t first = ap (λ (l : List Answer). last_or None l) (none past (omega (arith, first)))
  where
    none : (xs : List Entry) → count (renews t) xs ≡ 0 → each_of (again_of t) xs ≡ []
    none [] h = refl
    none (e ∷ xs) h = one e.what h (none xs)
      where
        by_task : (b : Bool) (answer : Answer) → length (cond b (e ∷ filter (λ (x : Entry). renews t x.what) xs) (filter (λ (x : Entry). renews t x.what) xs)) ≡ 0
            → (count (renews t) xs ≡ 0 → each_of (again_of t) xs ≡ []) → cons_option (cond {A = Option Answer} b (Some answer) None) (each_of (again_of t) xs) ≡ []
        by_task true answer h r = absurd cc
        by_task false answer h r = r h

        one : (w : What) → length (cond (renews t w) (e ∷ filter (λ (x : Entry). renews t x.what) xs) (filter (λ (x : Entry). renews t x.what) xs)) ≡ 0
            → (count (renews t) xs ≡ 0 → each_of (again_of t) xs ≡ []) → cons_option (again_of t w) (each_of (again_of t) xs) ≡ []
        one (Again task answer) h r = by_task (task == t) answer h r
        one w h r = r h

-- an Again says that a child was lost
pub again_lost : (o : Opening) (past : List Entry) → Legal o past → (t : ℕ) (a : Answer) → last_again past t ≡ Some a → is_of_lost_child a ≡ true
again_lost o past legal t a h = last_in (each_of (again_of t) past) all h
  where
    last_from : (x : Answer) (xs : List Answer) → is_of_lost_child x ≡ true → list_all is_of_lost_child xs ≡ true → last_or (Some x) xs ≡ Some a → is_of_lost_child a ≡ true
    last_from x [] h k e = (let same : x ≡ a = cc in subst (λ (y : Answer). is_of_lost_child y ≡ true) same h)
    last_from x (y ∷ ys) h k e = (let s = both (is_of_lost_child y) (list_all is_of_lost_child ys) k in last_from y ys s.0 s.1 e)

    last_in : (xs : List Answer) → list_all is_of_lost_child xs ≡ true → last_or None xs ≡ Some a → is_of_lost_child a ≡ true
    last_in [] k e = absurd cc
    last_in (y ∷ ys) k e = (let s = both (is_of_lost_child y) (list_all is_of_lost_child ys) k in last_from y ys s.0 s.1 e)

    one : (journal : List Entry) (by : ℕ) (w : What) → may_come o journal by w ≡ true → list_all is_of_lost_child (cons_option (again_of t w) []) ≡ true
    one journal by (Again task answer) may = by_task (task == t)
      where
        lost : is_of_lost_child answer ≡ true
        lost = (both (is_of_lost_child answer) (is_held_over_child (holder journal task)) (both (is_of_lost_child answer && is_held_over_child (holder journal task)) (nat_lt (count (renews task) journal) o.again)
            (both (is_claimed_by journal by task && not (has_open_job journal task)) (is_run_again o journal task answer) may).1).0).0

        by_task : (b : Bool) → list_all is_of_lost_child (cons_option (cond {A = Option Answer} b (Some answer) None) []) ≡ true
        by_task true = rw lost refl
        by_task false = refl
    one journal by w may = refl

    all : list_all is_of_lost_child (each_of (again_of t) past) ≡ true
    all = Legal-induction o (λ journal. list_all is_of_lost_child (each_of (again_of t) journal) ≡ true) refl
        (λ journal e l before may. ap (list_all is_of_lost_child) (each_of-append (again_of t) journal (e ∷ due_after o journal e)
        ∙ ap (λ (l : List Answer). each_of (again_of t) journal ++ cons_option (again_of t e.what) l) (due_names (again_of t) (λ c j v. refl) (λ c why. refl) (λ c j l. refl) o journal e.by e.what))
        ∙ all-join is_of_lost_child (each_of (again_of t) journal) (cons_option (again_of t e.what) []) before (one journal e.by e.what may)) past legal
