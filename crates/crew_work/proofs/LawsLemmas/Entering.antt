-- What an entry into the hall of a core gives a worker.
use Rattle.std.proofs.Common.{◌≡◌, ℕ, ◌<◌, List, [], ◌∷◌, ◌++◌, refl, sym, ap, subst, ◌∙◌, Bool, true, false, not, ◌==◌, cond, Some, None, Option, append_assoc, append-nil, arith, inl, inr}
use Rattle.std.specs.Prelude.{◌&&◌}
use Rattle.std.specs.List.{list_any}
use Rattle.threads.specs.Log.{flat}
use Rattle.threads.specs.Passes.{HallValue, PassValue, seen_of, HasEntered}
use Rattle.journal_model.specs.declared.answer.Answer.{Answer}
use Rattle.journal_model.specs.declared.entry.What.TheVariants.{Claim}
use Rattle.journal_model.specs.declared.entry.Entry.{Entry}
use Rattle.journal_model.specs.declared.opening.Opening.{Opening}
use Rattle.journal_model.specs.Journal.{is_started}
use Rattle.journal_model.specs.Legality.{Legal, least_free, is_free, is_claimed, is_claimed_by, is_busy, is_prepared, is_run_again, numbers_of, has_open_job, both_conflict, task_of, turn_of_task}
use Rattle.journal_model.specs.Shares.{are_others}
use Rattle.journal_model.proofs.Holding.{held_claimed}
use Rattle.journal_model.proofs.Looks.{entry}
use Rattle.journal_model.proofs.Testing.{by_either}
use Rattle.host_core.specs.declared.event.Event.TheVariants.{Claim as ClaimEvent, Answer as AnswerEvent}
use Rattle.host_core.specs.declared.event.Event.{Event}
use Rattle.host_core.specs.declared.event.Reply.{Reply}
use Rattle.host_core.specs.declared.event.Reply.TheVariants.{Wait, NoTask, Done}
use Rattle.host_core.specs.Mays.{MayStep, IsMadeBy}
use Rattle.host_core.specs.Steps.{Step, step_of, claim, only, append, gone, is_gone, are_all_claimed, closing as what_closes}
use Rattle.task_model.specs.Askings.{closing}
use Rattle.crew_work.specs.Laws.Tasks.{Lasts}
use Rattle.crew_work.specs.Laws.Workers.{Free, Busy, WorkBegun, Entered, ClaimGives}
use Rattle.crew_work.proofs.LawsLemmas.Halls.{legal_log, signed_log, others_log}
use Rattle.journal_model.proofs.Working.{jobs_stay_closed, no_jobs_in}
use Rattle.crew_work.proofs.LawsLemmas.Laboring.{work_others, busy_others, busy_apart, claim_begins, answer_frees}
use Rattle.std.proofs.lemmas.Bool.{not-true as not_true, and_parts as both, ne_eqb as differ}
use Rattle.ann_key.proofs.Booleans.{true_and_false as true_not_false}
use Rattle.ann_key.proofs.Lists.{found_so as find_holds}

pub entered : (h : HallValue Entry Opening) (before after : PassValue Entry Opening) (event : Event) (reply : Reply)
    → HasEntered IsMadeBy MayStep h before after event reply → Entered h.fixed before.number (seen_of before) (seen_of after) event reply
entered h before after event reply e = record {
  others = flat e.between;
  group = e.group;
  apart = others_log before.number e.between e.others (signed_log h.fixed (seen_of before) e.between e.between_legal);
  between = legal_log h.fixed (seen_of before) e.between e.between_legal;
  step = e.own.1;
  is = e.seen;
}

-- the step of a claim by a worker for a prepared child
claim_step : (o : Opening) (past : List Entry) (n c : ℕ) → 0 < n → is_started past c ≡ true → is_prepared past c ≡ true
    → step_of o past n (ClaimEvent c) ≡ cond (is_gone past c) (only (gone past c)) (claim o past n c (least_free o past))
claim_step o past n c pos s p = rw (differ n 0 (λ e. omega (arith, pos, e)), s, p) (go (c == 0))
  where
    go : (b : Bool) → cond (b && false) (claim o past n c (least_free o past)) (cond (is_gone past c) (only (gone past c)) (claim o past n c (least_free o past)))
        ≡ cond (is_gone past c) (only (gone past c)) (claim o past n c (least_free o past))
    go true = refl
    go false = refl

-- what an answer appends, as a run has it
pub closes_so : (o : Opening) (past : List Entry) (t : ℕ) (answer : Answer) → what_closes o past t answer ≡ closing (is_run_again o past t answer) t answer
closes_so o past t answer = go (is_run_again o past t answer)
  where
    go : (b : Bool) → cond b (closing true t answer) (closing false t answer) ≡ closing b t answer
    go true = refl
    go false = refl

-- and no more
closes_alone : (o : Opening) (past : List Entry) (n : ℕ) (again : Bool) (t : ℕ) (answer : Answer) → (append o past n (closing again t answer) Done).group ≡ entry n (closing again t answer) ∷ []
closes_alone o past n true t answer = refl
closes_alone o past n false t answer = refl

module _ (o : Opening) (means : ℕ → ℕ → ℕ → List Entry → Type 0) (stays : Lasts means) (n c : ℕ) (start : List Entry) where
  abbrev Gone : List Entry → (List Entry → Type 0) → Type 0
  Gone new P = (more : List Entry) × (new ≡ start ++ more) × P more

  -- ---- a claim

  pub claim_gives : (more new : List Entry) (reply : Reply) → 0 < n → Entered o n (start ++ more) new (ClaimEvent c) reply
      → Free o means n c start more → Gone new (λ m. ClaimGives o means n c start m reply)
  claim_gives more new reply pos e w = by_gone (is_gone seen c) refl
    where
      seen : List Entry
      seen = (start ++ more) ++ e.others

      now : List Entry
      now = more ++ e.others

      same_seen : seen ≡ start ++ now
      same_seen = append_assoc start more e.others

      legal : Legal o seen
      legal = e.between w.legal

      free : Free o means n c start now
      free = work_others o means stays n c start (λ t k. ⊥) more e.others legal e.apart w

      step : step_of o seen n (ClaimEvent c) ≡ cond (is_gone seen c) (only (gone seen c)) (claim o seen n c (least_free o seen))
      step = claim_step o seen n c pos (subst (λ (x : List Entry). is_started x c ≡ true) (sym same_seen) free.started) (subst (λ (x : List Entry). is_prepared x c ≡ true) (sym same_seen) free.ready)

      group_so : (s : Step) → step_of o seen n (ClaimEvent c) ≡ s → e.group ≡ s.group
      group_so s is = e.step.group_is ∙ ap (λ (x : Step). x.group) is

      reply_so : (s : Step) → step_of o seen n (ClaimEvent c) ≡ s → reply ≡ s.reply
      reply_so s is = e.step.reply_is ∙ ap (λ (x : Step). x.reply) is

      -- nothing was appended
      quiet : (r : Reply) → step_of o seen n (ClaimEvent c) ≡ only r → ClaimGives o means n c start now r → Gone new (λ m. ClaimGives o means n c start m reply)
      quiet r is gives = (
        now,
        e.is ∙ ap (λ (g : List Entry). seen ++ g) (group_so (only r) is) ∙ append-nil seen ∙ same_seen,
        subst (ClaimGives o means n c start now) (sym (reply_so (only r) is)) gives,
      )

      by_task : (f : Option ℕ) → least_free o seen ≡ f → step_of o seen n (ClaimEvent c) ≡ claim o seen n c f → Gone new (λ m. ClaimGives o means n c start m reply)
      by_task (Some t) least is = (
        now ++ one,
        e.is ∙ ap (λ (g : List Entry). seen ++ g) grown ∙ ap (λ (x : List Entry). x ++ one) same_seen ∙ append_assoc start now one,
        subst (ClaimGives o means n c start (now ++ one)) (sym (reply_so (claim o seen n c (Some t)) is)) begun,
      )
        where
          one : List Entry
          one = entry n (Claim t c) ∷ []

          grown : e.group ≡ one
          grown = group_so (claim o seen n c (Some t)) is

          unclaimed : is_claimed seen t ≡ false
          unclaimed = not_true (is_claimed seen t)
              (both (not (is_claimed seen t)) (not (list_any (λ u. is_busy seen u && both_conflict (task_of o u) (task_of o t)) (numbers_of o))) (find_holds (is_free o seen) (numbers_of o) t least)).0

          longer : Legal o ((start ++ now) ++ one)
          longer = subst (λ (x : List Entry). Legal o (x ++ one)) same_seen (subst (λ (g : List Entry). Legal o (seen ++ g)) grown e.step.legal)

          fresh : is_busy (start ++ now) t ≡ false
          fresh = subst (λ (x : List Entry). is_busy x t ≡ false) same_seen
              (by_either (is_busy seen t) (λ h. true_not_false (is_claimed seen t) (held_claimed seen t h) unclaimed) (λ f. f))

          turn : turn_of_task seen t ≡ turn_of_task (start ++ now) t
          turn = ap (λ (x : List Entry). turn_of_task x t) same_seen

          begun : WorkBegun o means n c t (turn_of_task seen t) start (now ++ one)
          begun = record {
            busy = subst (λ (k : ℕ). Busy o means n c t k start (now ++ one)) (sym turn) (claim_begins o means stays n c start t now longer free);
            past = start ++ now;
            claim = sym (append_assoc start now one);
            unheld = fresh;
          }
      by_task None least is = by_all (are_all_claimed o seen) refl
        where
          by_all : (b : Bool) → are_all_claimed o seen ≡ b → Gone new (λ m. ClaimGives o means n c start m reply)
          by_all true all = quiet NoTask (is ∙ (rw all refl)) (free, inl (subst (λ (x : List Entry). are_all_claimed o x ≡ true) same_seen all))
          by_all false all = quiet Wait (is ∙ (rw all refl)) free

      by_gone : (b : Bool) → is_gone seen c ≡ b → Gone new (λ m. ClaimGives o means n c start m reply)
      by_gone true g = quiet (gone seen c) (step ∙ (rw g refl)) (free, inr (subst (λ (x : List Entry). is_gone x c ≡ true) same_seen g))
      by_gone false g = by_task (least_free o seen) refl (step ∙ (rw g refl))

  -- ---- what closes a run

  -- a worker answers its task, with no job open, where the answer is what the run means whatever others make before it
  pub answer_gives : (t k : ℕ) (more new : List Entry) (answer : Answer) (reply : Reply) → Entered o n (start ++ more) new (AnswerEvent t answer) reply
      → has_open_job (start ++ more) t ≡ false
      → ((others : List Entry) (again : Bool) → are_others n others ≡ true → Legal o ((start ++ more) ++ others)
      → means n t k (((start ++ more) ++ others) ++ entry n (closing again t answer) ∷ []))
      → Busy o means n c t k start more → (reply ≡ Done) × Gone new (Free o means n c start)
  answer_gives t k more new answer reply e shut run b = (
    e.step.reply_is ∙ ap (λ (x : Step). x.reply) step,
    (
      now ++ one,
      e.is ∙ ap (λ (g : List Entry). seen ++ g) grown ∙ ap (λ (x : List Entry). x ++ one) same_seen ∙ append_assoc start now one,
      answer_frees o means stays n c start t k now again answer (subst (λ (x : List Entry). Legal o (x ++ one)) same_seen longer)
          (subst (λ (x : List Entry). means n t k (x ++ one)) same_seen (run e.others again e.apart legal)) busy,
    ),
  )
    where
      seen : List Entry
      seen = (start ++ more) ++ e.others

      now : List Entry
      now = more ++ e.others

      again : Bool
      again = is_run_again o seen t answer

      one : List Entry
      one = entry n (closing again t answer) ∷ []

      same_seen : seen ≡ start ++ now
      same_seen = append_assoc start more e.others

      legal : Legal o seen
      legal = e.between b.work.legal

      busy : Busy o means n c t k start now
      busy = busy_others o means stays n c start t k more e.others legal e.apart b

      closed : has_open_job seen t ≡ false
      closed = jobs_stay_closed (start ++ more) e.others t (no_jobs_in t e.others (busy_apart o means stays n c start t k more e.others legal e.apart b)) shut

      mine : is_claimed_by seen n t ≡ true
      mine = subst (λ (x : List Entry). is_claimed_by x n t ≡ true) (sym same_seen) busy.held

      step : step_of o seen n (AnswerEvent t answer) ≡ append o seen n (closing again t answer) Done
      step = (let s : step_of o seen n (AnswerEvent t answer) ≡ append o seen n (what_closes o seen t answer) Done = rw (mine, closed) refl in s)
          ∙ ap (λ w. append o seen n w Done) (closes_so o seen t answer)

      grown : e.group ≡ one
      grown = e.step.group_is ∙ ap (λ (x : Step). x.group) step ∙ closes_alone o seen n again t answer

      longer : Legal o (seen ++ one)
      longer = subst (λ (g : List Entry). Legal o (seen ++ g)) grown e.step.legal
