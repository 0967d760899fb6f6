-- In a legal journal a task is claimed once, its entries are its claimer's, and it has no open job where it isn't busy.
use Rattle.std.proofs.Common.{◌≡◌, ℕ, ◌+◌, ◌≤◌, ◌<◌, List, [], ◌∷◌, ◌++◌, refl, sym, ap, subst, ◌∙◌, Bool, true, false, not, ◌==◌, cond, Some, None, Option, ◌⊎◌, inl, inr, length, append-nil, arith, length-append}
use Rattle.std.specs.Prelude.{◌&&◌, ◌||◌, if◌then◌else◌, nat_lt, map, filter, fold, is_none, is_some}
use Rattle.std.specs.List.{list_any, list_all, cons_option}
use Rattle.std.specs.Option.{option_or}
use Rattle.std.proofs.lemmas.List.Elements.{filter-append}
use Rattle.std.proofs.lemmas.List.Folds.{list_any-append}
use Rattle.annex_model.specs.Messages.{host_reading}
use Rattle.journal_model.specs.declared.verdict.Verdict.{Verdict}
use Rattle.journal_model.specs.declared.holder.Holder.{Holder}
use Rattle.journal_model.specs.declared.entry.What.{What}
use Rattle.journal_model.specs.declared.entry.What.TheVariants.{Claim, Start, NoStart, Lead, Ask, Put, Sent, Mute, Got, End, Verdict as Settled, Lost, Answer as Answered, Note as Noted, Again}
use Rattle.journal_model.specs.declared.entry.Entry.{Entry}
use Rattle.journal_model.specs.declared.opening.Opening.{Opening}
use Rattle.journal_model.specs.Journal.{any, each_of, asks, asked_jobs, addressed, is_open, open_jobs, is_settled, settles, is_live, is_started, is_ended, is_mute, is_tagged, verdict_of}
use Rattle.journal_model.specs.Due.{due_by, due_after, made_by}
use Rattle.journal_model.specs.Legality.{Legal, may_come, count, claims, claimed_after, claimed_on, renews, closes, answers, is_claimed, is_busy, is_run_again, is_busy_with, is_claimed_by, is_held_by, holder, turned, turned_by, is_number, is_free, least_free, numbers_of, job_for, has_open_job, may_work, may_ask, may_note, is_greeted, asks_in_turn, is_prepared, is_empty, both_conflict, task_of}
use Rattle.journal_model.specs.Makers.{is_of_task, is_taken_by, is_by_holder, are_by_holder, task_part}
use Rattle.journal_model.specs.Shares.{are_own}
use Rattle.journal_model.proofs.Growing.{Near, Near-induction, Legal-induction}
use Rattle.journal_model.proofs.Holding.{holder_append, held_busy, held_claimed, claimed_append, claimed_group, closing_claims, closing_shut}
use Rattle.journal_model.proofs.Looks.{entry, is_asked, any-append, each_of-append, verdict_of-append, open_unsettled, unsettled}
use Rattle.journal_model.proofs.Soft.{is_soft}
use Rattle.journal_model.proofs.Testing.{by_either, all-join, any-fewer, any-more, own_if_none, out}
use Rattle.ann_key.proofs.Lists.{found_so as find_holds}
use Rattle.journal_model.proofs.Bounds.{due_soft as soft_due}
use Rattle.journal_model.proofs.Closing.{asked_open}
use Rattle.std.proofs.lemmas.Bool.{not-true as not_true, and_parts as both, eqb-true as same_number, ne_eqb as differ}
use Rattle.ann_key.proofs.Numbers.{same_number as same}
use Rattle.ann_key.proofs.Booleans.{left_false as either_left, right_false as either_right, true_and_false as true_not_false, or_left, or_right, or_false, or_neither as neither}

-- ---- what is due is of no task

soft_untasked : (t by : ℕ) (ws : List What) → list_all is_soft ws ≡ true → any (is_of_task t) (made_by by ws) ≡ false
soft_untasked t by [] h = refl
soft_untasked t by (Settled child job verdict ∷ ws) h = soft_untasked t by ws h
soft_untasked t by (Put child job line ∷ ws) h = soft_untasked t by ws h
soft_untasked t by (End child why ∷ ws) h = soft_untasked t by ws (both (is_soft (End child why)) (list_all is_soft ws) h).1
soft_untasked t by (w ∷ ws) h = absurd cc

pub due_untasked : (o : Opening) (past : List Entry) (by t : ℕ) (w : What) → any (is_of_task t) (due_after o past (entry by w)) ≡ false
due_untasked o past by t w = soft_untasked t by (due_by o past w) (soft_due o past w)

-- ---- entries of no task

pub claims_of : (t : ℕ) (w : What) → claims t w ≡ true → is_of_task t w ≡ true
claims_of t (Claim task child) h = h
claims_of t w h = absurd cc

pub answers_of : (t : ℕ) (w : What) → answers t w ≡ true → is_of_task t w ≡ true
answers_of t (Answered task answer) h = h
answers_of t w h = absurd cc

not_claims : (t : ℕ) (w : What) → is_of_task t w ≡ false → claims t w ≡ false
not_claims t (Claim task child) h = h
not_claims t w h = refl

not_closes : (t : ℕ) (w : What) → is_of_task t w ≡ false → closes t w ≡ false
not_closes t (Answered task answer) h = h
not_closes t (Again task answer) h = h
not_closes t w h = refl

not_renews : (t : ℕ) (w : What) → is_of_task t w ≡ false → renews t w ≡ false
not_renews t (Again task answer) h = h
not_renews t w h = refl

no_job_for : (t : ℕ) (w : What) → is_of_task t w ≡ false → job_for t w ≡ None
no_job_for t (Ask child job task line) h = rw h refl
no_job_for t w h = refl

pub unclaimed_in : (t : ℕ) (xs : List Entry) → any (is_of_task t) xs ≡ false → any (claims t) xs ≡ false
unclaimed_in t xs h = any-fewer (λ (e : Entry). is_of_task t e.what) (λ (e : Entry). claims t e.what) (λ e k. not_claims t e.what k) xs h

pub unclosed_in : (t : ℕ) (xs : List Entry) → any (is_of_task t) xs ≡ false → any (closes t) xs ≡ false
unclosed_in t xs h = any-fewer (λ (e : Entry). is_of_task t e.what) (λ (e : Entry). closes t e.what) (λ e k. not_closes t e.what k) xs h

pub unrenewed_in : (t : ℕ) (xs : List Entry) → any (is_of_task t) xs ≡ false → any (renews t) xs ≡ false
unrenewed_in t xs h = any-fewer (λ (e : Entry). is_of_task t e.what) (λ (e : Entry). renews t e.what) (λ e k. not_renews t e.what k) xs h

pub no_jobs_in : (t : ℕ) (xs : List Entry) → any (is_of_task t) xs ≡ false → each_of (job_for t) xs ≡ []
no_jobs_in t [] h = refl
no_jobs_in t (e ∷ xs) h =
    rw (no_job_for t e.what (either_left (is_of_task t e.what) (any (is_of_task t) xs) h))
    (no_jobs_in t xs (either_right (is_of_task t e.what) (any (is_of_task t) xs) h))

-- who takes a task claims it
pub taken_some : (xs : List Entry) (n t : ℕ) → is_taken_by xs n t ≡ true → any (claims t) xs ≡ true
taken_some xs n t h = any-more (λ (e : Entry). e.by == n && claims t e.what) (λ (e : Entry). claims t e.what) (λ e k. (both (e.by == n) (claims t e.what) k).1) xs h

pub untaken_by : (xs : List Entry) (n t : ℕ) → any (claims t) xs ≡ false → is_taken_by xs n t ≡ false
untaken_by xs n t h = by_either (is_taken_by xs n t) (λ k. true_not_false (any (claims t) xs) (taken_some xs n t k) h) (λ k. k)

pub taken_by-append : (xs ys : List Entry) (n t : ℕ) → is_taken_by (xs ++ ys) n t ≡ (is_taken_by xs n t || is_taken_by ys n t)
taken_by-append xs ys n t = list_any-append (λ (e : Entry). e.by == n && claims t e.what) xs ys

-- ---- who holds a task has taken it

-- what an entry makes of a holder: its own number's claim, or what was before
turns : (t n by : ℕ) (h : Option Holder) (w : What) → is_held_by n (turned_by t h by w) ≡ true → (is_held_by n h ≡ true) ⊎ ((by == n && claims t w) ≡ true)
turns t n by h (Claim task child) held = go (task == t) refl held
  where
    go : (b : Bool) → (task == t) ≡ b → is_held_by n (cond b (Some (record { by = by; child = child })) h) ≡ true → (is_held_by n h ≡ true) ⊎ ((by == n && (task == t)) ≡ true)
    go true e k = inr (rw (k, e) refl)
    go false e k = inl k
turns t n by h (Answered task answer) held = go (task == t) held
  where
    go : (b : Bool) → is_held_by n (cond b None h) ≡ true → (is_held_by n h ≡ true) ⊎ ((by == n && false) ≡ true)
    go true k = absurd cc
    go false k = inl k
turns t n by h (Again task answer) held = go (task == t) held
  where
    go : (b : Bool) → is_held_by n (cond b None h) ≡ true → (is_held_by n h ≡ true) ⊎ ((by == n && false) ≡ true)
    go true k = absurd cc
    go false k = inl k
turns t n by h w held = inl held

pub held_taken_from : (t n : ℕ) (h : Option Holder) (xs : List Entry) → is_held_by n (fold (turned t) h xs) ≡ true → (is_held_by n h ≡ true) ⊎ (is_taken_by xs n t ≡ true)
held_taken_from t n h [] held = inl held
held_taken_from t n h (e ∷ xs) held = go (held_taken_from t n (turned_by t h e.by e.what) xs held)
  where
    first : (is_held_by n h ≡ true) ⊎ ((e.by == n && claims t e.what) ≡ true) → (is_held_by n h ≡ true) ⊎ (is_taken_by (e ∷ xs) n t ≡ true)
    first (inl k) = inl k
    first (inr k) = inr (or_left (e.by == n && claims t e.what) (is_taken_by xs n t) k)

    go : (is_held_by n (turned_by t h e.by e.what) ≡ true) ⊎ (is_taken_by xs n t ≡ true) → (is_held_by n h ≡ true) ⊎ (is_taken_by (e ∷ xs) n t ≡ true)
    go (inl k) = first (turns t n e.by h e.what k)
    go (inr k) = inr (or_right (e.by == n && claims t e.what) (is_taken_by xs n t) k)

pub held_taken : (past : List Entry) (n t : ℕ) → is_claimed_by past n t ≡ true → is_taken_by past n t ≡ true
held_taken past n t h = go (held_taken_from t n None past h)
  where
    go : (false ≡ true) ⊎ (is_taken_by past n t ≡ true) → is_taken_by past n t ≡ true
    go (inl bad) = absurd cc
    go (inr k) = k

-- a holder stays where nothing ends the task's run
keeps : (t by : ℕ) (h : Option Holder) (w : What) → closes t w ≡ false → is_some h ≡ true → is_some (turned_by t h by w) ≡ true
keeps t by h (Claim task child) a k = go (task == t)
  where
    go : (b : Bool) → is_some (cond b (Some (record { by = by; child = child })) h) ≡ true
    go true = refl
    go false = k
keeps t by h (Answered task answer) a k = rw a k
keeps t by h (Again task answer) a k = rw a k
keeps t by h w a k = k

still_held : (t : ℕ) (h : Option Holder) (xs : List Entry) → any (closes t) xs ≡ false → is_some h ≡ true → is_some (fold (turned t) h xs) ≡ true
still_held t h [] a k = k
still_held t h (e ∷ xs) a k =
    still_held t (turned_by t h e.by e.what) xs (either_right (closes t e.what) (any (closes t) xs) a)
    (keeps t e.by h e.what (either_left (closes t e.what) (any (closes t) xs) a) k)

pub busy_stays : (past more : List Entry) (t : ℕ) → is_busy past t ≡ true → any (closes t) more ≡ false → is_busy (past ++ more) t ≡ true
busy_stays past more t b n = ap is_some (holder_append past more t) ∙ still_held t (holder past t) more n b

-- entries of no task leave the holder of each
apart_turned : (t by : ℕ) (h : Option Holder) (w : What) → is_of_task t w ≡ false → turned_by t h by w ≡ h
apart_turned t by h (Claim task child) a = rw a refl
apart_turned t by h (Answered task answer) a = rw a refl
apart_turned t by h (Again task answer) a = rw a refl
apart_turned t by h w a = refl

apart_held : (t : ℕ) (h : Option Holder) (xs : List Entry) → any (is_of_task t) xs ≡ false → fold (turned t) h xs ≡ h
apart_held t h [] a = refl
apart_held t h (e ∷ xs) a =
    ap (λ (g : Option Holder). fold (turned t) g xs) (apart_turned t e.by h e.what (either_left (is_of_task t e.what) (any (is_of_task t) xs) a))
    ∙ apart_held t h xs (either_right (is_of_task t e.what) (any (is_of_task t) xs) a)

pub holder_apart : (past more : List Entry) (t : ℕ) → any (is_of_task t) more ≡ false → holder (past ++ more) t ≡ holder past t
holder_apart past more t a = holder_append past more t ∙ apart_held t (holder past t) more a

-- and whether it is claimed
apart_claimed : (t : ℕ) (b : Bool) (w : What) → is_of_task t w ≡ false → claimed_after t b w ≡ b
apart_claimed t b (Claim task child) a = rw a (or_false b)
apart_claimed t b (Again task answer) a = go b a
  where
    go : (b : Bool) → (task == t) ≡ false → (b && not (task == t)) ≡ b
    go true a = rw a refl
    go false a = refl
apart_claimed t b w a = refl

apart_on : (t : ℕ) (b : Bool) (xs : List Entry) → any (is_of_task t) xs ≡ false → fold (claimed_on t) b xs ≡ b
apart_on t b [] a = refl
apart_on t b (e ∷ xs) a =
    ap (λ (c : Bool). fold (claimed_on t) c xs) (apart_claimed t b e.what (either_left (is_of_task t e.what) (any (is_of_task t) xs) a))
    ∙ apart_on t b xs (either_right (is_of_task t e.what) (any (is_of_task t) xs) a)

pub claimed_apart : (past more : List Entry) (t : ℕ) → any (is_of_task t) more ≡ false → is_claimed (past ++ more) t ≡ is_claimed past t
claimed_apart past more t a = claimed_append past more t ∙ apart_on t (is_claimed past t) more a

-- a claim makes a task busy, and what follows leaves it so
claim_holds : (t by : ℕ) (h : Option Holder) (w : What) → claims t w ≡ true → is_some (turned_by t h by w) ≡ true
claim_holds t by h (Claim task child) k = rw k refl
claim_holds t by h w k = absurd cc

pub claim_busy : (past : List Entry) (by t : ℕ) (w : What) (due : List Entry) → claims t w ≡ true → any (closes t) due ≡ false → is_busy (past ++ entry by w ∷ due) t ≡ true
claim_busy past by t w due k n =
    ap is_some (holder_append past (entry by w ∷ due) t) ∙ still_held t (turned_by t (holder past t) by w) due n (claim_holds t by (holder past t) w k)

-- ---- an entry of a task claims it first, or is its claimer's

pub claimed_free : (o : Opening) (past : List Entry) (t : ℕ) (f : Option ℕ) → least_free o past ≡ f → is_number t f ≡ true → is_claimed past t ≡ false
claimed_free o past t None e h = absurd cc
claimed_free o past t (Some k) e h =
    let free : is_free o past k ≡ true = find_holds (is_free o past) (numbers_of o) k e in
    subst (λ (x : ℕ). is_claimed past x ≡ false) (same_number k t h)
    (not_true (is_claimed past k) (both (not (is_claimed past k)) (not (list_any (λ u. is_busy past u && both_conflict (task_of o u) (task_of o k)) (numbers_of o))) free).0)

-- who may work on a task holds it
pub worker : (past : List Entry) (by t c : ℕ) → 0 < t → may_work past by t c ≡ true → is_claimed_by past by t ≡ true
worker past by t c pos h =
    let zero_not : (t == 0) ≡ false = differ t 0 (λ e. omega (arith, pos, e)) in
    let g : (is_claimed_by past by t && is_busy_with past c t && not (has_open_job past t)) ≡ true = (rw zero_not at h) in
    let s = both (is_claimed_by past by t && is_busy_with past c t) (not (has_open_job past t)) g in
    (both (is_claimed_by past by t) (is_busy_with past c t) s.0).0

-- the work that a request needs
may_ask_work : (past : List Entry) (by t c : ℕ) → may_ask past by t c ≡ true → may_work past by t c ≡ true
may_ask_work past by t c h =
    (both (is_greeted past c (length (asked_jobs past c))) (may_work past by t c)
    (both (is_greeted past c (length (asked_jobs past c)) && may_work past by t c) (is_tagged past c || is_empty (open_jobs past c)) h).0).1

last_of_five : (a b c d e : Bool) → (a && b && c && d && e) ≡ true → e ≡ true
last_of_five true true true true e h = h
last_of_five false b c d e h = absurd cc
last_of_five true false c d e h = absurd cc
last_of_five true true false d e h = absurd cc
last_of_five true true true false e h = absurd cc

pub ask_work : (o : Opening) (past : List Entry) (by child job task : ℕ) (line : List ℕ) → may_come o past by (Ask child job task line) ≡ true → may_work past by task child ≡ true
ask_work o past by child job task line may =
    may_ask_work past by task child
    (last_of_five (is_live past child) (not (is_mute past child)) (job == length (asked_jobs past child))
    (asks_in_turn past child job line (host_reading (addressed past child line).1)) (may_ask past by task child) may)

lost_work : (o : Opening) (past : List Entry) (by child task : ℕ) → may_come o past by (Lost child task) ≡ true → may_work past by task child ≡ true
lost_work o past by child task may =
    may_ask_work past by task child (both (is_started past child && (is_ended past child || is_mute past child)) (may_ask past by task child) may).1

-- what may come of a task: a claim where it isn't claimed, or work of its holder
abbrev pub Takes : List Entry → ℕ → ℕ → What → Type 0
Takes past by t w = ((is_claimed past t ≡ false) × (claims t w ≡ true)) ⊎ ((is_claimed_by past by t ≡ true) × (claims t w ≡ false))

pub takes : (o : Opening) (past : List Entry) (by t : ℕ) (w : What) → 0 < t → may_come o past by w ≡ true → is_of_task t w ≡ true → Takes past by t w
takes o past by t (Claim task child) pos may of =
    let s = both (is_number task (least_free o past)) ((child == 0 && by == 0) || (is_prepared past child && is_live past child && not (is_mute past child))) may in
    inl (subst (λ (x : ℕ). is_claimed past x ≡ false) (same_number task t of) (claimed_free o past task (least_free o past) refl s.0), of)
takes o past by t (Ask child job task line) pos may of =
    let work : may_work past by t child ≡ true = subst (λ (x : ℕ). may_work past by x child ≡ true) (same_number task t of) (ask_work o past by child job task line may) in
    inr (worker past by t child pos work, refl)
takes o past by t (Lost child task) pos may of =
    let work : may_work past by t child ≡ true = subst (λ (x : ℕ). may_work past by x child ≡ true) (same_number task t of) (lost_work o past by child task may) in
    inr (worker past by t child pos work, refl)
takes o past by t (Answered task answer) pos may of =
    inr (subst (λ (x : ℕ). is_claimed_by past by x ≡ true) (same_number task t of) (closing_claims past by task (not (is_run_again o past task answer)) may), refl)
takes o past by t (Again task answer) pos may of =
    inr (subst (λ (x : ℕ). is_claimed_by past by x ≡ true) (same_number task t of) (closing_claims past by task (is_run_again o past task answer) may), refl)
takes o past by t (Noted task chunk count) pos may of =
    let a = both (is_claimed_by past by task && may_note (task_of o task) && not (has_open_job past task)) (nat_lt 0 chunk) may in
    let b = both (is_claimed_by past by task && may_note (task_of o task)) (not (has_open_job past task)) a.0 in
    let s = both (is_claimed_by past by task) (may_note (task_of o task)) b.0 in
    inr (subst (λ (x : ℕ). is_claimed_by past by x ≡ true) (same_number task t of) s.0, refl)
takes o past by t (Start child slot offer) pos may of = absurd cc
takes o past by t (NoStart slot) pos may of = absurd cc
takes o past by t (Lead child job line) pos may of = absurd cc
takes o past by t (Put child job line) pos may of = absurd cc
takes o past by t (Sent child) pos may of = absurd cc
takes o past by t (Mute child) pos may of = absurd cc
takes o past by t (Got child line) pos may of = absurd cc
takes o past by t (End child why) pos may of = absurd cc
takes o past by t (Settled child job verdict) pos may of = absurd cc

-- ---- an entry of a task claims it, or is its holder's

pub are_by_holder-append : (t : ℕ) (h : Option Holder) (xs ys : List Entry) → are_by_holder t h (xs ++ ys) ≡ (are_by_holder t h xs && are_by_holder t (fold (turned t) h xs) ys)
are_by_holder-append t h [] ys = refl
are_by_holder-append t h (e ∷ xs) ys =
    ap (λ (b : Bool). is_by_holder t h e && b) (are_by_holder-append t (turned t h e) xs ys)
    ∙ and_assoc (is_by_holder t h e) (are_by_holder t (turned t h e) xs) (are_by_holder t (fold (turned t) (turned t h e) xs) ys)
  where
    and_assoc : (a b c : Bool) → (a && (b && c)) ≡ (a && b && c)
    and_assoc true b c = refl
    and_assoc false b c = refl

-- entries of no task are by whom they will
untasked_by : (t : ℕ) (h : Option Holder) (xs : List Entry) → any (is_of_task t) xs ≡ false → are_by_holder t h xs ≡ true
untasked_by t h [] a = refl
untasked_by t h (e ∷ xs) a =
    rw (either_left (is_of_task t e.what) (any (is_of_task t) xs) a, untasked_by t (turned t h e) xs (either_right (is_of_task t e.what) (any (is_of_task t) xs) a)) refl

pub record Kept (past : List Entry) : Type 0 where
  pub own : (t : ℕ) → 0 < t → are_by_holder t None past ≡ true
  pub none : (t : ℕ) → 0 < t → any (claims t) past ≡ false → any (is_of_task t) past ≡ false

kept_step : (o : Opening) (past : List Entry) (by : ℕ) (w : What) → Kept past → may_come o past by w ≡ true → Kept (past ++ entry by w ∷ due_after o past (entry by w))
kept_step o past by w kept may = record { own = own; none = none }
  where
    due : List Entry
    due = due_after o past (entry by w)

    more : List Entry
    more = entry by w ∷ due

    own : (t : ℕ) → 0 < t → are_by_holder t None (past ++ more) ≡ true
    own t pos =
        are_by_holder-append t None past more
        ∙ (rw (kept.own t pos, first, untasked_by t (turned t (holder past t) (entry by w)) due (due_untasked o past by t w)) refl)
      where
        by_takes : Takes past by t w → (if claims t w then is_none (holder past t) else is_held_by by (holder past t)) ≡ true
        by_takes (inl free) = rw free.1 (unheld (holder past t) (by_either (is_busy past t) (λ b. true_not_false (is_claimed past t) (held_claimed past t b) free.0) (λ b. b)))
          where
            unheld : (h : Option Holder) → is_some h ≡ false → is_none h ≡ true
            unheld None k = refl
            unheld (Some x) k = absurd cc
        by_takes (inr work) = rw (work.1, work.0) refl

        first : is_by_holder t (holder past t) (entry by w) ≡ true
        first = by_either (is_of_task t w)
            (λ is. rw (is, by_takes (takes o past by t w pos may is)) refl)
            (λ off. rw off refl)

    none : (t : ℕ) → 0 < t → any (claims t) (past ++ more) ≡ false → any (is_of_task t) (past ++ more) ≡ false
    none t pos h =
        any-append (is_of_task t) past more
        ∙ neither (any (is_of_task t) past) (any (is_of_task t) more) (kept.none t pos old)
        (neither (is_of_task t w) (any (is_of_task t) due) (by_either (is_of_task t w) (λ is. bad (takes o past by t w pos may is)) (λ off. off)) (due_untasked o past by t w))
      where
        split : (any (claims t) past || any (claims t) more) ≡ false
        split = sym (any-append (claims t) past more) ∙ h

        old : any (claims t) past ≡ false
        old = either_left (any (claims t) past) (any (claims t) more) split

        bad : Takes past by t w → is_of_task t w ≡ false
        bad (inl first) = true_not_false (claims t w) first.1 (either_left (claims t w) (any (claims t) due) (either_right (any (claims t) past) (any (claims t) more) split))
        bad (inr work) = true_not_false (any (claims t) past) (taken_some past by t (held_taken past by t work.0)) old

tasks_near : (o : Opening) (journal : List Entry) → Near o journal → Kept journal
tasks_near o journal near =
    Near-induction o Kept (record { own = λ t pos. refl; none = λ t pos h. refl }) (λ past e legal before may. kept_step o past e.by e.what before may) journal near

pub tasks_kept : (o : Opening) (journal : List Entry) → Legal o journal → Kept journal
tasks_kept o journal l = tasks_near o journal (inl l)

-- where a number holds a task and makes no more of it, nobody does
held_alone_from : (t n : ℕ) (h : Option Holder) (more : List Entry) → is_held_by n h ≡ true → are_by_holder t h more ≡ true
    → list_all (λ e. not (is_of_task t e.what && e.by == n)) more ≡ true → any (is_of_task t) more ≡ false
held_alone_from t n h [] held own none = refl
held_alone_from t n h (e ∷ more) held own none =
    let o = both (is_by_holder t h e) (are_by_holder t (turned t h e) more) own in
    let s = both (not (is_of_task t e.what && e.by == n)) (list_all (λ x. not (is_of_task t x.what && x.by == n)) more) none in
    let off : is_of_task t e.what ≡ false = by_either (is_of_task t e.what) (λ is. never is o.0 s.0) (λ k. k) in
    neither (is_of_task t e.what) (any (is_of_task t) more) off
    (held_alone_from t n h more held (subst (λ (x : Option Holder). are_by_holder t x more ≡ true) (apart_turned t e.by h e.what off) o.1) s.1)
  where
    never : is_of_task t e.what ≡ true → is_by_holder t h e ≡ true → not (is_of_task t e.what && e.by == n) ≡ true → is_of_task t e.what ≡ false
    never is own none = go h held (claims t e.what) (rw is at own) (rw is at none)
      where
        go : (h : Option Holder) → is_held_by n h ≡ true → (c : Bool) → (if c then is_none h else is_held_by e.by h) ≡ true → not (e.by == n) ≡ true → is_of_task t e.what ≡ false
        go None k c own none = absurd cc
        go (Some x) k true own none = absurd cc
        go (Some x) k false own none = true_not_false (e.by == n) (subst (λ (m : ℕ). (e.by == m) ≡ true) (sym (same_number x.by e.by own) ∙ same_number x.by n k) (same e.by)) (not_true (e.by == n) none)

pub held_alone : (o : Opening) (seen more : List Entry) (n t : ℕ) → 0 < t → Legal o (seen ++ more) → is_claimed_by seen n t ≡ true
    → list_all (λ e. not (is_of_task t e.what && e.by == n)) more ≡ true → any (is_of_task t) more ≡ false
held_alone o seen more n t pos legal held none =
    held_alone_from t n (holder seen t) more held
    (both (are_by_holder t None seen) (are_by_holder t (holder seen t) more) (sym (are_by_holder-append t None seen more) ∙ (tasks_kept o (seen ++ more) legal).own t pos)).1 none

-- ---- once

pub count-append : (p : What → Bool) (xs ys : List Entry) → count p (xs ++ ys) ≡ count p xs + count p ys
count-append p xs ys = ap (λ (l : List Entry). length l) (filter-append (λ (e : Entry). p e.what) xs ys) ∙ length-append (filter (λ (e : Entry). p e.what) xs) (filter (λ (e : Entry). p e.what) ys)

pub count_none : (p : What → Bool) (xs : List Entry) → any p xs ≡ false → count p xs ≡ 0
count_none p [] h = refl
count_none p (e ∷ xs) h = rw (either_left (p e.what) (any p xs) h) (count_none p xs (either_right (p e.what) (any p xs) h))

abbrev pub one_if : Bool → ℕ
one_if true = 1
one_if false = 0

pub count_one : (p : What → Bool) (e : Entry) (xs : List Entry) → any p xs ≡ false → count p (e ∷ xs) ≡ one_if (p e.what)
count_one p e xs h = go (p e.what)
  where
    n : count p xs ≡ 0
    n = count_none p xs h

    go : (b : Bool) → length (cond b (e ∷ filter (λ (x : Entry). p x.what) xs) (filter (λ (x : Entry). p x.what) xs)) ≡ one_if b
    go true = omega (arith, n)
    go false = n

-- there are as many claims of a task as Agains of it, and one more while it is claimed
pub claims_counted : (o : Opening) (journal : List Entry) → Near o journal → (t : ℕ) → count (claims t) journal ≡ one_if (is_claimed journal t) + count (renews t) journal
claims_counted o journal l =
    Near-induction o (λ past. (t : ℕ) → count (claims t) past ≡ one_if (is_claimed past t) + count (renews t) past) (λ t. refl)
    (λ past e legal before may. step past e.by e.what before may) journal l
  where
    step : (past : List Entry) (by : ℕ) (w : What) → ((t : ℕ) → count (claims t) past ≡ one_if (is_claimed past t) + count (renews t) past) → may_come o past by w ≡ true
        → (t : ℕ) → count (claims t) (past ++ entry by w ∷ due_after o past (entry by w))
        ≡ one_if (is_claimed (past ++ entry by w ∷ due_after o past (entry by w)) t) + count (renews t) (past ++ entry by w ∷ due_after o past (entry by w))
    step past by w before may t =
        count-append (claims t) past more
        ∙ (rw (
          before t,
          claimed_group o past by w t,
          count-append (renews t) past more,
          count_one (claims t) (entry by w) due (unclaimed_in t due (due_untasked o past by t w)),
          count_one (renews t) (entry by w) due (unrenewed_in t due (due_untasked o past by t w)),
        ) (arithmetic w may))
      where
        due : List Entry
        due = due_after o past (entry by w)

        more : List Entry
        more = entry by w ∷ due

        arithmetic : (w : What) → may_come o past by w ≡ true
            → one_if (is_claimed past t) + count (renews t) past + one_if (claims t w) ≡ one_if (claimed_after t (is_claimed past t) w) + (count (renews t) past + one_if (renews t w))
        arithmetic (Claim task child) may = go (task == t) refl
          where
            go : (b : Bool) → (task == t) ≡ b → one_if (is_claimed past t) + count (renews t) past + one_if b ≡ one_if (is_claimed past t || b) + (count (renews t) past + 0)
            go true e =
                let s = both (is_number task (least_free o past)) ((child == 0 && by == 0) || (is_prepared past child && is_live past child && not (is_mute past child))) may in
                let free : is_claimed past t ≡ false = subst (λ (x : ℕ). is_claimed past x ≡ false) (same_number task t e) (claimed_free o past task (least_free o past) refl s.0) in
                rw free (omega arith)
            go false e = rw (or_false (is_claimed past t)) (omega arith)
        arithmetic (Again task answer) may = go (task == t) refl
          where
            go : (b : Bool) → (task == t) ≡ b → one_if (is_claimed past t) + count (renews t) past + 0 ≡ one_if (is_claimed past t && not b) + (count (renews t) past + one_if b)
            go true e =
                let held : is_busy past t ≡ true = subst (λ (x : ℕ). is_busy past x ≡ true) (same_number task t e) (held_busy by (holder past task) (closing_claims past by task (is_run_again o past task answer) may)) in
                rw (held_claimed past t held) (omega arith)
            go false e = by_bool (is_claimed past t)
              where
                by_bool : (c : Bool) → one_if c + count (renews t) past + 0 ≡ one_if (c && true) + (count (renews t) past + 0)
                by_bool true = omega arith
                by_bool false = omega arith
        arithmetic w may = omega arith

pub claimed_once : (o : Opening) (journal : List Entry) → Legal o journal → (t : ℕ) → count (claims t) journal ≤ 1 + count (renews t) journal
claimed_once o journal l t = (let eq = claims_counted o journal (inl l) t in omega (arith, eq, at_most (is_claimed journal t)))
  where
    at_most : (b : Bool) → one_if b ≤ 1
    at_most true = omega arith
    at_most false = omega arith

-- ---- open jobs

-- a job that was asked and isn't open is settled, and stays so
pub asked_settled : (past : List Entry) (c j : ℕ) → is_asked past c j ≡ true → is_open past c j ≡ false → is_settled past c j ≡ true
asked_settled past c j a h = by_either (is_settled past c j) (λ t. t) (λ f. true_not_false (is_open past c j) (asked_open past c j (asked_jobs past c) f a) h)

pub settled_closed : (past : List Entry) (c j : ℕ) → is_settled past c j ≡ true → is_open past c j ≡ false
settled_closed past c j h = by_either (is_open past c j) (λ t. true_not_false (is_settled past c j) h (open_unsettled past c j t)) (λ f. f)

pub stays_closed : (past more : List Entry) (c j : ℕ) → is_asked past c j ≡ true → is_open past c j ≡ false → is_open (past ++ more) c j ≡ false
stays_closed past more c j a h =
    settled_closed (past ++ more) c j (any-append (settles c j) past more ∙ or_left (is_settled past c j) (is_settled more c j) (asked_settled past c j a h))

abbrev pub AllAsked : List Entry → List (ℕ × ℕ) → Type 0
AllAsked past [] = Unit {0}
AllAsked past (q ∷ qs) = (is_asked past q.0 q.1 ≡ true) × AllAsked past qs

pub asked_after : (o : Option ℕ) (ks : List ℕ) (j : ℕ) → list_any (λ k. k == j) ks ≡ true → list_any (λ k. k == j) (cons_option o ks) ≡ true
asked_after None ks j h = h
asked_after (Some k) ks j h = or_right (k == j) (list_any (λ k. k == j) ks) h

all_asked_after : (by : ℕ) (w : What) (xs : List Entry) (qs : List (ℕ × ℕ)) → AllAsked xs qs → AllAsked (entry by w ∷ xs) qs
all_asked_after by w xs [] h = tt
all_asked_after by w xs (q ∷ qs) h = (asked_after (asks q.0 w) (asked_jobs xs q.0) q.1 h.0, all_asked_after by w xs qs h.1)

pub asked_first : (by child job task : ℕ) (line : List ℕ) (xs : List Entry) → is_asked (entry by (Ask child job task line) ∷ xs) child job ≡ true
asked_first by child job task line xs =
    rw (same child) (or_left (job == job) (list_any (λ k. k == job) (asked_jobs xs child)) (same job))

-- the jobs of a task were asked
pub all_asked : (t : ℕ) (xs : List Entry) → AllAsked xs (each_of (job_for t) xs)
all_asked t [] = tt
all_asked t (e ∷ xs) = step e.what (all_asked t xs)
  where
    step : (w : What) → AllAsked xs (each_of (job_for t) xs) → AllAsked (entry e.by w ∷ xs) (cons_option (job_for t w) (each_of (job_for t) xs))
    step (Ask child job task line) r = go (task == t) (all_asked_after e.by (Ask child job task line) xs (each_of (job_for t) xs) r)
      where
        go : (b : Bool) → AllAsked (entry e.by (Ask child job task line) ∷ xs) (each_of (job_for t) xs)
            → AllAsked (entry e.by (Ask child job task line) ∷ xs) (cons_option (cond b (Some (child, job)) None) (each_of (job_for t) xs))
        go true more = (asked_first e.by child job task line xs, more)
        go false more = more
    step w r = all_asked_after e.by w xs (each_of (job_for t) xs) r

-- the jobs are settled alike in both
abbrev pub SameVerdicts : List Entry → List Entry → List (ℕ × ℕ) → Type 0
SameVerdicts j k [] = Unit {0}
SameVerdicts j k (q ∷ qs) = (verdict_of j q.0 q.1 ≡ verdict_of k q.0 q.1) × SameVerdicts j k qs

pub closed_all : (past more : List Entry) (qs : List (ℕ × ℕ)) → AllAsked past qs → list_any (λ q. is_open past q.0 q.1) qs ≡ false
    → list_any (λ q. is_open (past ++ more) q.0 q.1) qs ≡ false
closed_all past more [] a h = refl
closed_all past more (q ∷ qs) a h =
    rw (stays_closed past more q.0 q.1 a.0 (either_left (is_open past q.0 q.1) (list_any (λ q. is_open past q.0 q.1) qs) h))
    (closed_all past more qs a.1 (either_right (is_open past q.0 q.1) (list_any (λ q. is_open past q.0 q.1) qs) h))

-- a task that has no open job, and asks nothing more, has none later
pub jobs_stay_closed : (past more : List Entry) (t : ℕ) → each_of (job_for t) more ≡ [] → has_open_job past t ≡ false → has_open_job (past ++ more) t ≡ false
jobs_stay_closed past more t none h =
    let jobs : each_of (job_for t) (past ++ more) ≡ each_of (job_for t) past =
    each_of-append (job_for t) past more ∙ ap (λ (x : List (ℕ × ℕ)). each_of (job_for t) past ++ x) none ∙ append-nil (each_of (job_for t) past) in
    ap (list_any (λ q. is_open (past ++ more) q.0 q.1)) jobs ∙ closed_all past more (each_of (job_for t) past) (all_asked t past) h

-- ---- a task that isn't busy has no open job

pub idle_shut : (o : Opening) (journal : List Entry) → Legal o journal → (t : ℕ) → 0 < t → is_busy journal t ≡ false → has_open_job journal t ≡ false
idle_shut o journal l =
    Legal-induction o (λ past. (t : ℕ) → 0 < t → is_busy past t ≡ false → has_open_job past t ≡ false) (λ t pos h. refl)
    (λ past e near before may. step past e.by e.what (tasks_near o past near) before may) journal l
  where
    step : (past : List Entry) (by : ℕ) (w : What) → Kept past → ((t : ℕ) → 0 < t → is_busy past t ≡ false → has_open_job past t ≡ false) → may_come o past by w ≡ true
        → (t : ℕ) → 0 < t → is_busy (past ++ entry by w ∷ due_after o past (entry by w)) t ≡ false → has_open_job (past ++ entry by w ∷ due_after o past (entry by w)) t ≡ false
    step past by w kept before may t pos h = by_either (is_of_task t w) taken untaken
      where
        due : List Entry
        due = due_after o past (entry by w)

        more : List Entry
        more = entry by w ∷ due

        untasked : any (is_of_task t) due ≡ false
        untasked = due_untasked o past by t w

        untaken : is_of_task t w ≡ false → has_open_job (past ++ more) t ≡ false
        untaken f = jobs_stay_closed past more t (no_jobs_in t more none) (before t pos idle)
          where
            none : any (is_of_task t) more ≡ false
            none = rw (f, untasked) refl

            idle : is_busy past t ≡ false
            idle = by_either (is_busy past t) (λ b. true_not_false (is_busy (past ++ more) t) (busy_stays past more t b (unclosed_in t more none)) h) (λ b. b)

        -- work that doesn't end the run leaves the task busy
        still : closes t w ≡ false → is_busy past t ≡ true → has_open_job (past ++ more) t ≡ false
        still a b = true_not_false (is_busy (past ++ more) t) (busy_stays past more t b (rw (a, unclosed_in t due untasked) refl)) h

        -- the first claim makes it busy
        begun : claims t w ≡ true → has_open_job (past ++ more) t ≡ false
        begun is =
            true_not_false (is_busy (past ++ more) t) (claim_busy past by t w due is (unclosed_in t due untasked)) h

        by_kind : (v : What) → w ≡ v → may_come o past by v ≡ true → is_of_task t v ≡ true → closes t v ≡ true → has_open_job (past ++ more) t ≡ false
        by_kind (Answered task answer) e m is a =
            jobs_stay_closed past more t
            (ap (λ (x : What). cons_option (job_for t x) (each_of (job_for t) due)) e ∙ no_jobs_in t due untasked)
            (subst (λ (x : ℕ). has_open_job past x ≡ false) (same_number task t is) (closing_shut past by task (not (is_run_again o past task answer)) m))
        by_kind (Again task answer) e m is a =
            jobs_stay_closed past more t
            (ap (λ (x : What). cons_option (job_for t x) (each_of (job_for t) due)) e ∙ no_jobs_in t due untasked)
            (subst (λ (x : ℕ). has_open_job past x ≡ false) (same_number task t is) (closing_shut past by task (is_run_again o past task answer) m))
        by_kind v e m is a = absurd cc

        taken : is_of_task t w ≡ true → has_open_job (past ++ more) t ≡ false
        taken is = by_either (closes t w) (λ a. by_kind w refl may is a) (λ a. go (takes o past by t w pos may is) a)
          where
            go : Takes past by t w → closes t w ≡ false → has_open_job (past ++ more) t ≡ false
            go (inl first) a = begun first.1
            go (inr work) a = still a (held_busy by (holder past t) work.0)

-- ---- what a journal has of a task stays

pub kept_verdict : (past more : List Entry) (c j : ℕ) → is_asked past c j ≡ true → is_open past c j ≡ false → verdict_of (past ++ more) c j ≡ verdict_of past c j
kept_verdict past more c j a h = verdict_of-append c j past more ∙ by_verdict (verdict_of past c j) refl
  where
    by_verdict : (v : Option Verdict) → verdict_of past c j ≡ v → option_or v (verdict_of more c j) ≡ v
    by_verdict (Some v) e = refl
    by_verdict None e = true_not_false (is_settled past c j) (asked_settled past c j a h) (unsettled past c j e)

pub same_verdicts : (past more : List Entry) (qs : List (ℕ × ℕ)) → AllAsked past qs → list_any (λ q. is_open past q.0 q.1) qs ≡ false → SameVerdicts (past ++ more) past qs
same_verdicts past more [] a h = tt
same_verdicts past more (q ∷ qs) a h = (
  kept_verdict past more q.0 q.1 a.0 (either_left (is_open past q.0 q.1) (list_any (λ q. is_open past q.0 q.1) qs) h),
  same_verdicts past more qs a.1 (either_right (is_open past q.0 q.1) (list_any (λ q. is_open past q.0 q.1) qs) h),
)

kept_verdicts : (past more : List Entry) (qs : List (ℕ × ℕ)) → AllAsked past qs → list_any (λ q. is_open past q.0 q.1) qs ≡ false
    → map (λ q. verdict_of (past ++ more) q.0 q.1) qs ≡ map (λ q. verdict_of past q.0 q.1) qs
kept_verdicts past more [] a h = refl
kept_verdicts past more (q ∷ qs) a h =
    rw (
      kept_verdict past more q.0 q.1 a.0 (either_left (is_open past q.0 q.1) (list_any (λ q. is_open past q.0 q.1) qs) h),
      kept_verdicts past more qs a.1 (either_right (is_open past q.0 q.1) (list_any (λ q. is_open past q.0 q.1) qs) h),
    ) refl

filter_untasked : (t : ℕ) (xs : List Entry) → any (is_of_task t) xs ≡ false → filter (λ (e : Entry). is_of_task t e.what) xs ≡ []
filter_untasked t [] h = refl
filter_untasked t (e ∷ xs) h =
    rw (either_left (is_of_task t e.what) (any (is_of_task t) xs) h) (filter_untasked t xs (either_right (is_of_task t e.what) (any (is_of_task t) xs) h))

-- after its last entry, with no open job, nothing that the journal has of the task changes
pub part_stays : (past more : List Entry) (t : ℕ) → any (is_of_task t) more ≡ false → has_open_job past t ≡ false → task_part (past ++ more) t ≡ task_part past t
part_stays past more t none h =
    let jobs : each_of (job_for t) (past ++ more) ≡ each_of (job_for t) past =
    each_of-append (job_for t) past more ∙ ap (λ (x : List (ℕ × ℕ)). each_of (job_for t) past ++ x) (no_jobs_in t more none) ∙ append-nil (each_of (job_for t) past) in
    let entries : filter (λ (e : Entry). is_of_task t e.what) (past ++ more) ≡ filter (λ (e : Entry). is_of_task t e.what) past =
    filter-append (λ (e : Entry). is_of_task t e.what) past more
    ∙ ap (λ (x : List Entry). filter (λ (e : Entry). is_of_task t e.what) past ++ x) (filter_untasked t more none) ∙ append-nil (filter (λ (e : Entry). is_of_task t e.what) past) in
    let verdicts : map (λ q. verdict_of (past ++ more) q.0 q.1) (each_of (job_for t) (past ++ more)) ≡ map (λ q. verdict_of past q.0 q.1) (each_of (job_for t) past) =
    ap (map (λ q. verdict_of (past ++ more) q.0 q.1)) jobs ∙ kept_verdicts past more (each_of (job_for t) past) (all_asked t past) h in
    λ i. record { entries = entries i; verdicts = verdicts i }
