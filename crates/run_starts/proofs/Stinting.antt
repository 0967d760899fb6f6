-- The parts of a stint: its greeting, its tasks, its closing.
use Rattle.std.proofs.Common.{◌≡◌, ◌⊎◌, ℕ, List, [], ◌∷◌, ◌++◌, refl, sym, ap, subst, ◌∙◌, append-nil, Bool, true, false, not, ◌==◌, cond, Some, None, Option, arith, inl, inr}
use Rattle.std.specs.Prelude.{◌&&◌, is_some}
use Rattle.std.specs.List.{list_all, list_any}
use Rattle.journal_model.specs.declared.verdict.Why.TheVariants.{Closed}
use Rattle.journal_model.specs.declared.entry.What.{What}
use Rattle.journal_model.specs.declared.entry.What.TheVariants.{Claim, NoStart, Start, Lead, Ask, Put, Sent, Mute, Got, End, Verdict as Settled, Lost, Answer as Answered, Note, Again}
use Rattle.journal_model.specs.declared.entry.Entry.{Entry}
use Rattle.journal_model.specs.declared.opening.Opening.{Opening}
use Rattle.journal_model.specs.Journal.{any, each_of, is_ended, is_started, open_jobs, starts}
use Rattle.journal_model.specs.Legality.{Legal, claimed_for, is_busy, is_busy_with, is_held_for, holder, may_stop}
use Rattle.journal_model.specs.Makers.{is_of_task}
use Rattle.journal_model.specs.Shares.{are_by, is_closed}
use Rattle.journal_model.specs.declared.holder.Holder.{Holder}
use Rattle.journal_model.proofs.Holding.{claimed, closed, holder_append, unturned}
use Rattle.journal_model.proofs.Looks.{any-append}
use Rattle.journal_model.proofs.Testing.{all-join}
use Rattle.journal_model.proofs.Working.{holder_apart}
use Rattle.host_core.specs.Steps.{are_all_claimed}
use Rattle.child_link.specs.Alone.{Closes}
use Rattle.child_link.proofs.Writings.{lone_apart}
use Rattle.child_link.proofs.Solo.{closed_over}
use Rattle.journal_model.specs.Halves.{EarValue, MouthValue}
use Rattle.child_link.specs.Writings.{LoneWired}
use Rattle.journal_model.specs.declared.answer.Answer.{Answer}
use Rattle.child_life.specs.Start.Greetings.{Greeted, IsReady, is_greeting_line, is_of_greeting}
use Rattle.crew_work.specs.Worker.KnownLayouts.{IsBook}
use Rattle.crew_work.specs.Worker.Works.{CanWork, by_worker, ends_closed}
use Rattle.crew_work.specs.Laws.Tasks.{claimed_turn, turns_by}
use Rattle.crew_work.proofs.WorkerLemmas.Working.{ends_behind}
use Rattle.run_starts.specs.Rounds.{AllLostWell, EndsClosed, is_closing, is_of_run}
use Rattle.run_starts.specs.Stints.{AnswersOne, in_stint, main_entry}
use Rattle.run_starts.proofs.Later.{all_work, greeting_asks, late}
use Rattle.run_starts.proofs.Losing.{greeted_next, lost_both, lost_greeting, lost_tasks, loses_task}
use Rattle.run_starts.proofs.Nexts.{is_quiet}
use Rattle.run_starts.proofs.Tests.{each_none, claimed_same, turns_none}
use Rattle.run_starts.proofs.Zeros.{rests_one}
use Rattle.std.proofs.lemmas.Bool.{and_parts as both}
use Rattle.ann_key.proofs.Numbers.{same_number as same}
use Rattle.ann_key.proofs.Booleans.{or_left, or_right}
use Rattle.journal_model.proofs.Across.{all_in, idle_on}

-- ---- a part

pub record Part (c : ℕ) (xs : List Entry) : Type 0 where
  pub within : list_all (λ e. in_stint c e.what) xs ≡ true
  pub main : are_by 0 xs ≡ true
  pub asks : list_all (λ e. is_of_run e.what) xs ≡ true

pub part_both : (c : ℕ) (xs ys : List Entry) → Part c xs → Part c ys → Part c (xs ++ ys)
part_both c xs ys h k = record {
  within = all-join (λ (e : Entry). in_stint c e.what) xs ys h.within k.within;
  main = all-join (λ (e : Entry). e.by == 0) xs ys h.main k.main;
  asks = all-join (λ (e : Entry). is_of_run e.what) xs ys h.asks k.asks;
}

-- ---- the greeting

greeting_in : (c : ℕ) (w : What) → is_of_greeting c w ≡ true → in_stint c w ≡ true
greeting_in c (Ask child job task line) h = (both (child == c) (task == 0 && is_greeting_line job line) h).0
greeting_in c (Lost child task) h = (both (child == c) (task == 0) h).0
greeting_in c (Put child job line) h = h
greeting_in c (Sent child) h = h
greeting_in c (Mute child) h = h
greeting_in c (Got child line) h = h
greeting_in c (End child why) h = (both (child == c) (not (is_closed why)) h).0
greeting_in c (Settled child job verdict) h = h
greeting_in c w h = absurd cc

pub greeting_part : (c : ℕ) (xs : List Entry) → list_all (λ (e : Entry). is_of_greeting c e.what) xs ≡ true → are_by 0 xs ≡ true → Part c xs
greeting_part c xs own main = record {
  within = all_in (is_of_greeting c) (in_stint c) (greeting_in c) xs own;
  main = main;
  asks = all_in (is_of_greeting c) is_of_run (greeting_asks c) xs own;
}

greeting_claims : (c : ℕ) (w : What) → is_of_greeting c w ≡ true → claimed w ≡ None
greeting_claims c (Claim task child) h = absurd cc
greeting_claims c w h = refl

greeting_closes : (c : ℕ) (w : What) → is_of_greeting c w ≡ true → closed w ≡ None
greeting_closes c (Answered task answer) h = absurd cc
greeting_closes c (Again task answer) h = absurd cc
greeting_closes c w h = refl

greeting_takes : (c : ℕ) (past : List Entry) (w : What) → is_of_greeting c w ≡ true → claimed_turn past w ≡ None
greeting_takes c past (Claim task child) h = absurd cc
greeting_takes c past w h = refl

greeting_quiet : (c : ℕ) (w : What) → is_of_greeting c w ≡ true → is_quiet w ≡ true
greeting_quiet c (Start child slot offer) h = absurd cc
greeting_quiet c (NoStart slot) h = absurd cc
greeting_quiet c (Claim task child) h = absurd cc
greeting_quiet c w h = refl

module _ (old new : List Entry) (offer : Bool) (c : ℕ) (g : Greeted old new 0 offer c) where
  abbrev first : Entry
  first = main_entry (Start c 0 offer)

  pub greeting_started : is_started new c ≡ true
  greeting_started =
      ap (λ (j : List Entry). is_started j c) g.grown ∙ any-append (starts c) old (first ∷ g.more) ∙ or_right (is_started old c) (is_started (first ∷ g.more) c) (or_left (c == c) (is_started g.more c) (same c))

  pub greeting_takes_none : (past : List Entry) → turns_by 0 past g.more ≡ []
  greeting_takes_none past = turns_none (is_of_greeting c) (greeting_takes c) 0 past g.more g.own

  pub quiet_greeting : list_all (λ (e : Entry). is_quiet e.what) g.more ≡ true
  quiet_greeting = all_in (is_of_greeting c) is_quiet (greeting_quiet c) g.more g.own

  pub greeting_rests : ((t : ℕ) → is_busy old t ≡ false) → (t : ℕ) → is_busy new t ≡ false
  greeting_rests rest t =
      ap (λ (j : List Entry). is_busy j t) g.grown ∙ ap is_some (holder_append old (first ∷ g.more) t)
      ∙ ap is_some (unturned t (holder old t) (first ∷ g.more) (each_none claimed (is_of_greeting c) (greeting_claims c) g.more g.own) (each_none closed (is_of_greeting c) (greeting_closes c) g.more g.own))
      ∙ rest t

  pub greeting_claims_none : each_of claimed (first ∷ g.more) ≡ []
  greeting_claims_none = each_none claimed (is_of_greeting c) (greeting_claims c) g.more g.own

  pub greeting_closes_none : each_of closed (first ∷ g.more) ≡ []
  greeting_closes_none = each_none closed (is_of_greeting c) (greeting_closes c) g.more g.own

  pub greeting_works : (o : Opening) → Legal o new → IsReady new c → IsBook o.notes → ((t : ℕ) → is_busy old t ≡ false) → CanWork o c new
  greeting_works o legal ready book rest = record {
    serves = record { legal = legal; number = (let n = g.next in omega (arith, n)); started = greeting_started; prepared = ready.prepared; book = book };
    rests = record { idle = g.idle; rest = greeting_rests rest };
  }

-- what follows the greeting loses requests of tasks alone
pub served_lost : (old new : List Entry) (offer : Bool) (c : ℕ) (g : Greeted old new 0 offer c) (more : List Entry) → list_all (λ (e : Entry). loses_task e.what) more ≡ true
    → AllLostWell (old ++ main_entry (Start c 0 offer) ∷ []) (g.more ++ more)
served_lost old new offer c g more h =
    lost_both (old ++ main_entry (Start c 0 offer) ∷ []) g.more more (lost_greeting (old ++ main_entry (Start c 0 offer) ∷ []) c g.more (greeted_next old c 0 offer) g.own)
    (lost_tasks ((old ++ main_entry (Start c 0 offer) ∷ []) ++ g.more) more h)

-- ---- tasks

worker_in : (c : ℕ) (w : What) → by_worker true c w ≡ true → in_stint c w ≡ true
worker_in c (Claim task child) h = refl
worker_in c (Lead child job line) h = h
worker_in c (Ask child job task line) h = (both (child == c) (not (task == 0)) h).0
worker_in c (Lost child task) h = (both (child == c) (not (task == 0)) h).0
worker_in c (Note task chunk count) h = refl
worker_in c (Answered task answer) h = refl
worker_in c (Again task answer) h = refl
worker_in c (Put child job line) h = h
worker_in c (Sent child) h = h
worker_in c (Mute child) h = h
worker_in c (Got child line) h = h
worker_in c (End child why) h = (both (child == c) (not (is_closed why)) h).0
worker_in c (Settled child job verdict) h = h
worker_in c w h = absurd cc

pub worker_part : (c : ℕ) (xs : List Entry) → list_all (λ (e : Entry). by_worker true c e.what) xs ≡ true → are_by 0 xs ≡ true → list_all (λ (e : Entry). late c e.what) xs ≡ true → Part c xs
worker_part c xs only own later = record {
  within = all_in (by_worker true c) (in_stint c) (worker_in c) xs only;
  main = own;
  asks = all_work c xs only later;
}

worker_loses_task : (c : ℕ) (w : What) → by_worker true c w ≡ true → loses_task w ≡ true
worker_loses_task c (Lost child task) h = (both (child == c) (not (task == 0)) h).1
worker_loses_task c w h = refl

pub worker_loses : (c : ℕ) (xs : List Entry) → list_all (λ (e : Entry). by_worker true c e.what) xs ≡ true → list_all (λ (e : Entry). loses_task e.what) xs ≡ true
worker_loses c xs h = all_in (by_worker true c) loses_task (worker_loses_task c) xs h

pub zero_part : (c t : ℕ) (answer : Answer) → Part c (main_entry (Claim t 0) ∷ main_entry (Answered t answer) ∷ [])
zero_part c t answer = record { within = refl; main = refl; asks = refl }

-- ---- the closing

-- what a closing appends
pub record Closing (c : ℕ) (mid new : List Entry) : Type 0 where
  pub tail : List Entry
  pub is : new ≡ mid ++ tail
  pub one : (tail ≡ []) ⊎ (tail ≡ main_entry (End c Closed) ∷ [])
  pub ended : is_ended new c ≡ true

pub closing : (c : ℕ) (mid new : List Entry) → Closes 0 c mid new → Closing c mid new
closing c mid new h = go (is_ended mid c) h
  where
    over : is_ended new c ≡ true
    over = closed_over 0 c mid new h

    go : (b : Bool) → new ≡ cond b mid (mid ++ main_entry (End c Closed) ∷ []) → Closing c mid new
    go true e = record { tail = []; is = e ∙ sym (append-nil mid); one = inl refl; ended = over }
    go false e = record { tail = main_entry (End c Closed) ∷ []; is = e; one = inr refl; ended = over }

module _ (c : ℕ) (tail : List Entry) (one : (tail ≡ []) ⊎ (tail ≡ main_entry (End c Closed) ∷ [])) where
  -- what holds of nothing and of the end
  pub of_closing : (P : List Entry → Type 0) → P [] → P (main_entry (End c Closed) ∷ []) → P tail
  of_closing P n e = go one
    where
      go : (tail ≡ []) ⊎ (tail ≡ main_entry (End c Closed) ∷ []) → P tail
      go (inl x) = subst P (sym x) n
      go (inr x) = subst P (sym x) e

  pub closing_part : Part c tail
  closing_part = of_closing (Part c) (record { within = refl; main = refl; asks = refl }) (record { within = rw (same c) refl; main = refl; asks = refl })

  pub closing_loses : list_all (λ (e : Entry). loses_task e.what) tail ≡ true
  closing_loses = of_closing (λ (x : List Entry). list_all (λ (e : Entry). loses_task e.what) x ≡ true) refl refl

  pub closing_closes : list_all (λ (e : Entry). is_closing e.what) tail ≡ true
  closing_closes = of_closing (λ (x : List Entry). list_all (λ (e : Entry). is_closing e.what) x ≡ true) refl refl

  -- after entries of which the last closes a run
  pub closing_ends : (past new : List Entry) (x : Entry) (xs : List Entry) → new ≡ (past ++ x ∷ xs) ++ tail → ends_closed (x ∷ xs) ≡ true → EndsClosed new
  closing_ends past new x xs is h = record {
    past = past ++ x ∷ xs;
    closings = tail;
    is = is;
    answered = ends_behind past x xs h;
    closed = closing_closes;
  }

  pub closing_claims : (o : Opening) (past : List Entry) → are_all_claimed o (past ++ tail) ≡ are_all_claimed o past
  closing_claims o past = claimed_same o past tail (of_closing (λ (x : List Entry). each_of claimed x ≡ []) refl refl) (of_closing (λ (x : List Entry). each_of closed x ≡ []) refl refl)

  pub closing_rests : (mid : List Entry) → ((t : ℕ) → is_busy mid t ≡ false) → (t : ℕ) → is_busy (mid ++ tail) t ≡ false
  closing_rests mid rest t = ap is_some (holder_apart mid tail t (of_closing (λ (x : List Entry). any (is_of_task t) x ≡ false) refl refl)) ∙ rest t

-- an idle child may be closed where no task is busy
pub may_close : (past : List Entry) (c : ℕ) → open_jobs past c ≡ [] → ((t : ℕ) → is_busy past t ≡ false) → may_stop past c Closed ≡ true
may_close past c idle rest = rw (idle, none (each_of (claimed_for c) past)) refl
  where
    unheld : (h : Option Holder) → is_some h ≡ false → is_held_for c h ≡ false
    unheld None e = refl
    unheld (Some h) e = absurd cc

    none : (ts : List ℕ) → list_any (is_busy_with past c) ts ≡ false
    none [] = refl
    none (t ∷ ts) = rw (unheld (holder past t) (rest t), none ts) refl

-- ---- one task without a child

module _ (o : Opening) (old mid : List Entry) (answer : ℕ → Answer) where
  pub one_idle : (c : ℕ) (b : Bool) → AnswersOne o old mid answer b → open_jobs old c ≡ [] → open_jobs mid c ≡ []
  one_idle c true a idle = ap (λ (j : List Entry). open_jobs j c) a.2 ∙ idle_on old (main_entry (Claim a.0 0) ∷ main_entry (Answered a.0 (answer a.0)) ∷ []) c refl idle
  one_idle c false a idle = ap (λ (j : List Entry). open_jobs j c) a.0 ∙ idle

  pub one_rests : (b : Bool) → AnswersOne o old mid answer b → ((t : ℕ) → is_busy old t ≡ false) → (t : ℕ) → is_busy mid t ≡ false
  one_rests true a rest t = ap (λ (j : List Entry). is_busy j t) a.2 ∙ rests_one old a.0 (answer a.0) rest t
  one_rests false a rest t = ap (λ (j : List Entry). is_busy j t) a.0 ∙ rest t

  pub one_wired : (e : EarValue) (m : MouthValue) → m.child ≡ e.child → (b : Bool) → AnswersOne o old mid answer b → LoneWired old e m → LoneWired mid e m
  one_wired e m one true a w = subst (λ (j : List Entry). LoneWired j e m) (sym a.2) (lone_apart old (main_entry (Claim a.0 0) ∷ main_entry (Answered a.0 (answer a.0)) ∷ []) e m one refl w)
  one_wired e m one false a w = subst (λ (j : List Entry). LoneWired j e m) (sym a.0) w
