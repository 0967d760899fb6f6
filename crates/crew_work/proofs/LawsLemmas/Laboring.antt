-- A worker goes on: while others make their entries, by a claim, and by what closes its run.
use Rattle.std.proofs.Common.{◌≡◌, ℕ, ◌<◌, List, [], ◌∷◌, ◌++◌, refl, sym, ap, subst, ◌∙◌, Bool, true, false, not, ◌==◌, None, Option, length, drop, append_assoc}
use Rattle.std.specs.Prelude.{◌||◌}
use Rattle.threads.specs.Passes.{seen_of}
use Rattle.journal_model.specs.declared.holder.Holder.{Holder}
use Rattle.journal_model.specs.declared.answer.Answer.{Answer}
use Rattle.journal_model.specs.declared.entry.What.{What}
use Rattle.journal_model.specs.declared.entry.What.TheVariants.{Claim, Answer as Answered, Again}
use Rattle.journal_model.specs.declared.entry.Entry.{Entry}
use Rattle.journal_model.specs.declared.opening.Opening.{Opening}
use Rattle.journal_model.specs.Journal.{any, starts, is_started}
use Rattle.journal_model.specs.Legality.{Legal, is_claimed_by, is_held_by, holder, turned_by, is_prepared, turn_of_task}
use Rattle.journal_model.specs.Makers.{is_of_task}
use Rattle.journal_model.specs.Shares.{are_others, makes_only}
use Rattle.journal_model.proofs.Holders.{others_unheld, others_apart, turn_stays}
use Rattle.journal_model.proofs.Holding.{holder_append}
use Rattle.journal_model.proofs.Looks.{entry, any-append}
use Rattle.journal_model.proofs.Testing.{by_either, all-join, only_others}
use Rattle.journal_model.proofs.Working.{holder_apart, unrenewed_in}
use Rattle.task_model.specs.Askings.{closing}
use Rattle.crew_work.specs.Laws.Posts.{Post, makes, works}
use Rattle.crew_work.specs.Laws.Tasks.{Lasts, IsThroughAfterAgain, takes_turn, turns_by}
use Rattle.crew_work.specs.Laws.Rounds.{CorePass, since, WorkerEnds}
use Rattle.crew_work.specs.Laws.Workers.{AtWork, Free, Busy}
use Rattle.crew_work.proofs.LawsLemmas.Halls.{drop_start}
use Rattle.crew_work.proofs.LawsLemmas.Turning.{claim_turns, is_turn, others_turns, takes_turn-append, turn_before}
use Rattle.std.proofs.lemmas.Bool.{and_parts as both, eqb-true as same_number}
use Rattle.ann_key.proofs.Numbers.{same_number as same}
use Rattle.ann_key.proofs.Booleans.{true_and_false as true_not_false, or_left, or_false}
use Rattle.task_model.proofs.Across.{prepared_on as prepared_lasts}

-- ---- what lasts

pub started_lasts : (past more : List Entry) (c : ℕ) → is_started past c ≡ true → is_started (past ++ more) c ≡ true
started_lasts past more c h = any-append (starts c) past more ∙ or_left (is_started past c) (is_started more c) h

-- ---- what closes a run

-- what holds of both
by_closing : (P : What → Type 0) (again : Bool) (t : ℕ) (answer : Answer) → P (Again t answer) → P (Answered t answer) → P (closing again t answer)
by_closing P true t answer x y = x
by_closing P false t answer x y = y

module _ (again : Bool) (t : ℕ) (answer : Answer) where
  closing_works : (c : ℕ) → works c (closing again t answer) ≡ true
  closing_works c = by_closing (λ w. works c w ≡ true) again t answer refl refl

  closing_other : (u : ℕ) → (t == u) ≡ false → is_of_task u (closing again t answer) ≡ false
  closing_other u d = by_closing (λ w. is_of_task u w ≡ false) again t answer d d

  -- nobody holds the task then
  closing_frees : (by : ℕ) (h : Option Holder) → turned_by t h by (closing again t answer) ≡ None
  closing_frees by h = by_closing (λ w. turned_by t h by w ≡ None) again t answer (rw (same t) refl) (rw (same t) refl)

  pub closing_turns : (n : ℕ) (past : List Entry) → turns_by n past (entry n (closing again t answer) ∷ []) ≡ []
  closing_turns n past = by_closing (λ w. turns_by n past (entry n w ∷ []) ≡ []) again t answer (rw (same n) refl) (rw (same n) refl)

-- ---- a worker

-- the number holds nothing more after these entries, and what it holds is in the same turn
abbrev Keeps : ℕ → List Entry → List Entry → Type 0
Keeps n seen extra = (t : ℕ) → is_claimed_by (seen ++ extra) n t ≡ true → (is_claimed_by seen n t ≡ true) × (turn_of_task (seen ++ extra) t ≡ turn_of_task seen t)

others_keep : (o : Opening) (n : ℕ) (seen others : List Entry) → Legal o seen → Legal o (seen ++ others) → are_others n others ≡ true → Keeps n seen others
others_keep o n seen others first whole apart t held = (mine, turn_stays seen others t (unrenewed_in t others (others_apart o seen others n t first whole apart mine)))
  where
    mine : is_claimed_by seen n t ≡ true
    mine = by_either (is_claimed_by seen n t) (λ k. k) (λ f. true_not_false (is_claimed_by (seen ++ others) n t) held (others_unheld seen others n t apart f))

module _ (o : Opening) (means : ℕ → ℕ → ℕ → List Entry → Type 0) (stays : Lasts means) (n c : ℕ) (start : List Entry) where
  over : (more extra : List Entry) (P : List Entry → Type 0) → P ((start ++ more) ++ extra) → P (start ++ (more ++ extra))
  over more extra P h = subst P (append_assoc start more extra) h

  under : (more extra : List Entry) (P : List Entry → Type 0) → P (start ++ (more ++ extra)) → P ((start ++ more) ++ extra)
  under more extra P h = subst P (sym (append_assoc start more extra)) h

  -- others made entries
  pub work_others : (is_at : ℕ → ℕ → Type 0) (more others : List Entry) → Legal o ((start ++ more) ++ others) → are_others n others ≡ true
      → AtWork o means n c is_at start more → AtWork o means n c is_at start (more ++ others)
  work_others is_at more others legal apart w = record {
    only = all-join (λ (e : Entry). not (e.by == n) || works c e.what) more others w.only (only_others (works c) n others apart);
    ran = λ t k h at. over more others (λ j. means n t k j)
        (stays n t k (start ++ more) others (w.ran t k (sym (turn_before start more others n t k (others_turns n (start ++ more) others apart)) ∙ h) at));
    holds = λ t free held. over more others (λ j. is_at t (turn_of_task j t))
        (let k = others_keep o n (start ++ more) others w.legal legal apart t (under more others (λ j. is_claimed_by j n t ≡ true) held) in
        subst (is_at t) (sym k.1) (w.holds t free k.0));
    legal = over more others (Legal o) legal;
    started = over more others (λ j. is_started j c ≡ true) (started_lasts (start ++ more) others c w.started);
    ready = over more others (λ j. is_prepared j c ≡ true) (prepared_lasts (start ++ more) others c w.ready);
  }

  -- and nothing of the task that it is at
  pub busy_apart : (t k : ℕ) (more others : List Entry) → Legal o ((start ++ more) ++ others) → are_others n others ≡ true → Busy o means n c t k start more
      → any (is_of_task t) others ≡ false
  busy_apart t k more others legal apart b = others_apart o (start ++ more) others n t b.work.legal legal apart b.held

  pub busy_others : (t k : ℕ) (more others : List Entry) → Legal o ((start ++ more) ++ others) → are_others n others ≡ true
      → Busy o means n c t k start more → Busy o means n c t k start (more ++ others)
  busy_others t k more others legal apart b = record {
    work = work_others (λ u j. (u ≡ t) × (j ≡ k)) more others legal apart b.work;
    taken = takes_turn-append start more others n t k ∙ or_left (takes_turn start more n t k) (takes_turn (start ++ more) others n t k) b.taken;
    held = over more others (λ j. is_claimed_by j n t ≡ true) (ap (is_held_by n) (holder_apart (start ++ more) others t none) ∙ b.held);
    turn = over more others (λ j. turn_of_task j t ≡ k) (turn_stays (start ++ more) others t (unrenewed_in t others none) ∙ b.turn);
  }
    where
      none : any (is_of_task t) others ≡ false
      none = busy_apart t k more others legal apart b

  -- ---- a claim

  pub claim_begins : (t : ℕ) (more : List Entry) → Legal o ((start ++ more) ++ entry n (Claim t c) ∷ []) → Free o means n c start more
      → Busy o means n c t (turn_of_task (start ++ more) t) start (more ++ entry n (Claim t c) ∷ [])
  claim_begins t more legal w = record {
    work = record {
      only = all-join (λ (e : Entry). not (e.by == n) || works c e.what) more one w.only (rw (same n, same c) refl);
      ran = λ u j h at. over more one (λ x. means n u j x) (stays n u j (start ++ more) one (w.ran u j (before u j h at) (λ x. x)));
      holds = holds;
      legal = over more one (Legal o) legal;
      started = over more one (λ j. is_started j c ≡ true) (started_lasts (start ++ more) one c w.started);
      ready = over more one (λ j. is_prepared j c ≡ true) (prepared_lasts (start ++ more) one c w.ready);
    };
    taken = takes_turn-append start more one n t k ∙ (rw (begun, same t, same k) (to_true (takes_turn start more n t k)));
    held = over more one (λ j. is_claimed_by j n t ≡ true) (ap (is_held_by n) (holder_append (start ++ more) one t) ∙ (rw (same t) (same n)));
    turn = over more one (λ j. turn_of_task j t ≡ k) (turn_stays (start ++ more) one t refl);
  }
    where
      one : List Entry
      one = entry n (Claim t c) ∷ []

      k : ℕ
      k = turn_of_task (start ++ more) t

      begun : turns_by n (start ++ more) one ≡ (t, k) ∷ []
      begun = claim_turns n (start ++ more) t c

      to_true : (b : Bool) → (b || true) ≡ true
      to_true true = refl
      to_true false = refl

      before : (u j : ℕ) → takes_turn start (more ++ one) n u j ≡ true → ((u ≡ t) × (j ≡ k) → ⊥) → takes_turn start more n u j ≡ true
      before u j h at =
          by_either (is_turn u j (t, k))
          (λ e. (let s = both (t == u) (k == j) e in absurd (at (sym (same_number t u s.0), sym (same_number k j s.1)))))
          (λ d. sym (takes_turn-append start more one n u j ∙ (rw (begun, d) (or_false (takes_turn start more n u j)))) ∙ h)

      holds : (u : ℕ) → is_claimed_by start n u ≡ false → is_claimed_by (start ++ (more ++ one)) n u ≡ true → (u ≡ t) × (turn_of_task (start ++ (more ++ one)) u ≡ k)
      holds u free held =
          by_either (t == u)
          (λ e. (let eq : u ≡ t = sym (same_number t u e) in (
            eq,
            over more one (λ j. turn_of_task j u ≡ k)
                (subst (λ (x : ℕ). turn_of_task ((start ++ more) ++ one) x ≡ k) (sym eq) (turn_stays (start ++ more) one t refl)),
          )))
          (λ d. absurd (w.holds u free
          (sym (ap (is_held_by n) (holder_apart (start ++ more) one u (rw d refl))) ∙ under more one (λ j. is_claimed_by j n u ≡ true) held)))

  -- ---- an answer, or that the task is to be run again

  pub answer_frees : (t k : ℕ) (more : List Entry) (again : Bool) (answer : Answer) → Legal o ((start ++ more) ++ entry n (closing again t answer) ∷ [])
      → means n t k ((start ++ more) ++ entry n (closing again t answer) ∷ [])
      → Busy o means n c t k start more → Free o means n c start (more ++ entry n (closing again t answer) ∷ [])
  answer_frees t k more again answer legal run b = record {
    only = all-join (λ (e : Entry). not (e.by == n) || works c e.what) more one b.work.only (rw (same n, closing_works again t answer c) refl);
    ran = λ u j h at. over more one (λ x. means n u j x) (by_either (is_turn u j (t, k)) (λ e. this u j e) (λ d. stays n u j (start ++ more) one (b.work.ran u j (before u j h) (apart u j d))));
    holds = holds;
    legal = over more one (Legal o) legal;
    started = over more one (λ j. is_started j c ≡ true) (started_lasts (start ++ more) one c b.work.started);
    ready = over more one (λ j. is_prepared j c ≡ true) (prepared_lasts (start ++ more) one c b.work.ready);
  }
    where
      one : List Entry
      one = entry n (closing again t answer) ∷ []

      this : (u j : ℕ) → is_turn u j (t, k) ≡ true → means n u j ((start ++ more) ++ one)
      this u j e =
          let s = both (t == u) (k == j) e in
          subst (λ (x : ℕ). means n x j ((start ++ more) ++ one)) (same_number t u s.0) (subst (λ (x : ℕ). means n t x ((start ++ more) ++ one)) (same_number k j s.1) run)

      apart : (u j : ℕ) → is_turn u j (t, k) ≡ false → (u ≡ t) × (j ≡ k) → ⊥
      apart u j d e = true_not_false (is_turn u j (t, k))
          (subst (λ (x : ℕ). is_turn x j (t, k) ≡ true) (sym e.0) (subst (λ (x : ℕ). is_turn t x (t, k) ≡ true) (sym e.1) (rw (same t, same k) refl))) d

      before : (u j : ℕ) → takes_turn start (more ++ one) n u j ≡ true → takes_turn start more n u j ≡ true
      before u j h = sym (turn_before start more one n u j (closing_turns again t answer n (start ++ more))) ∙ h

      freed : is_claimed_by ((start ++ more) ++ one) n t ≡ false
      freed = ap (is_held_by n) (holder_append (start ++ more) one t ∙ closing_frees again t answer n (holder (start ++ more) t))

      holds : (u : ℕ) → is_claimed_by start n u ≡ false → is_claimed_by (start ++ (more ++ one)) n u ≡ true → ⊥
      holds u free long =
          by_either (t == u)
          (λ e. true_not_false (is_claimed_by ((start ++ more) ++ one) n t) (subst (λ (x : ℕ). is_claimed_by ((start ++ more) ++ one) n x ≡ true) (sym (same_number t u e)) held) freed)
          (λ d. (let s = b.work.holds u free (sym (ap (is_held_by n) (holder_apart (start ++ more) one u (or_false (is_of_task u (closing again t answer)) ∙ closing_other again t answer u d))) ∙ held) in
          true_not_false (t == u) (subst (λ (x : ℕ). (t == x) ≡ true) (sym s.0) (same t)) d))
        where
          held : is_claimed_by ((start ++ more) ++ one) n u ≡ true
          held = under more one (λ j. is_claimed_by j n u ≡ true) long

  -- ---- the end of a worker

  pub free_ends : (crew : ℕ → Post) (p : CorePass) (more : List Entry) → p.start ≡ start → seen_of p ≡ start ++ more → p.number ≡ n → 0 < n
      → ((w : What) → works c w ≡ true → makes (crew n) w ≡ true)
      → Free o means n c start more → IsThroughAfterAgain o n c more (seen_of p) → WorkerEnds o means crew c p
  free_ends crew p more begins seen number pos post w through = record {
    keeps = record {
      number = subst (λ (m : ℕ). 0 < m) (sym number) pos;
      only = subst (λ (x : List Entry). makes_only (makes (crew p.number)) p.number x ≡ true) (sym new)
          (subst (λ (m : ℕ). makes_only (makes (crew m)) m more ≡ true) (sym number) (wider more w.only));
      holds = λ t free. by_either (is_claimed_by (seen_of p) p.number t) (λ h. absurd (w.holds t (from_start t free) (from_seen t h))) (λ f. f);
    };
    ran = λ t k h. subst (λ (x : List Entry). means p.number t k x) (sym seen) (subst (λ (m : ℕ). means m t k (start ++ more)) (sym number) (w.ran t k (taken t k h) (λ x. x)));
    through = subst (λ (x : List Entry). IsThroughAfterAgain o p.number c x (seen_of p)) (sym new) (subst (λ (m : ℕ). IsThroughAfterAgain o m c more (seen_of p)) (sym number) through);
  }
    where
      new : since p ≡ more
      new = ap (λ (x : List Entry). drop (length p.start) x) seen ∙ ap (λ (x : List Entry). drop (length x) (start ++ more)) begins ∙ drop_start start more

      from_start : (t : ℕ) → is_claimed_by p.start p.number t ≡ false → is_claimed_by start n t ≡ false
      from_start t h = subst (λ (m : ℕ). is_claimed_by start m t ≡ false) number (subst (λ (x : List Entry). is_claimed_by x p.number t ≡ false) begins h)

      from_seen : (t : ℕ) → is_claimed_by (seen_of p) p.number t ≡ true → is_claimed_by (start ++ more) n t ≡ true
      from_seen t h = subst (λ (m : ℕ). is_claimed_by (start ++ more) m t ≡ true) number (subst (λ (x : List Entry). is_claimed_by x p.number t ≡ true) seen h)

      taken : (t k : ℕ) → takes_turn p.start (since p) p.number t k ≡ true → takes_turn start more n t k ≡ true
      taken t k h = subst (λ (m : ℕ). takes_turn start more m t k ≡ true) number
          (subst (λ (x : List Entry). takes_turn x more p.number t k ≡ true) begins (subst (λ (x : List Entry). takes_turn p.start x p.number t k ≡ true) new h))

      wider : (xs : List Entry) → makes_only (works c) n xs ≡ true → makes_only (makes (crew n)) n xs ≡ true
      wider [] h = refl
      wider (e ∷ xs) h =
          let s = both (not (e.by == n) || works c e.what) (makes_only (works c) n xs) h in
          rw (one (e.by == n) s.0, wider xs s.1) refl
        where
          one : (b : Bool) → (not b || works c e.what) ≡ true → (not b || makes (crew n) e.what) ≡ true
          one true k = post e.what k
          one false k = refl
