-- The queue of the tasks is that of the journal, after each group too.
use Rattle.std.proofs.Common.{◌≡◌, ◌∙◌, ℕ, zero, suc, ◌+◌, ◌<◌, ◌≤◌, ◌^◌, List, [], ◌∷◌, ◌++◌, refl, sym, ap, subst, Bool, true, false, not, cond, Option, Some, None, length, arith, inl, inr, append-nil}
use Rattle.std.specs.Prelude.{◌&&◌, ◌||◌, ◌==◌, find, is_some}
use Rattle.std.specs.List.{list_any, range_with_len}
use Rattle.std.proofs.lemmas.Bool.{eqb-true, not-true, and_parts as both}
use Rattle.journal_model.specs.declared.holder.Holder.{Holder}
use Rattle.journal_model.specs.declared.entry.What.{What}
use Rattle.journal_model.specs.declared.entry.What.TheVariants.{Claim, Lead, Ask, Answer as Answered, Again}
use Rattle.journal_model.specs.declared.entry.Entry.{Entry}
use Rattle.journal_model.specs.declared.opening.Opening.{Opening}
use Rattle.journal_model.specs.Due.{due_after, made_by}
use Rattle.journal_model.specs.Legality.{both_conflict, has_open_job, holder, is_busy, is_claimed, is_claimed_by, is_free, is_number, is_run_again, least_free, may_come, numbers_of, task_of, turned_by}
use Rattle.journal_model.proofs.Growing.{pair}
use Rattle.journal_model.proofs.Holding.{claimed, claimed_append, claimed_group, closed, due_names, held_busy, holder_append, unturned}
use Rattle.journal_model.proofs.Looks.{entry}
use Rattle.task_queue.specs.Queues.{IsNext, IsQueued, IsTurned, busy_after, is_among}
use Rattle.task_queue.specs.declared.queue.Queue.{Queue}
use Rattle.host_core.specs.declared.due.Due.{Due}
use Rattle.host_core.specs.declared.event.Event.{Event}
use Rattle.host_core.specs.Moves.{dues, group_made}
use Rattle.host_core.specs.Queued.{IsNextIn, IsTurnedIn}
use Rattle.host_core.specs.Steps.{Step, step_of}
use Rattle.host_core.proofs.Stepping.{Came, plain_may, step_came}
use Rattle.host_core.proofs.Noting.{first_is}

-- ---- what a group makes of the tasks

busy_by : (t by : ℕ) (w : What) (h : Option Holder) → is_some (turned_by t h by w) ≡ busy_after t (is_some h) w
busy_by t by (Claim task child) h = go (task == t) h
  where
    go : (c : Bool) (h : Option Holder) → is_some (cond c (Some (record { by = by; child = child })) h) ≡ (is_some h || c)
    go true None = refl
    go true (Some x) = refl
    go false None = refl
    go false (Some x) = refl
busy_by t by (Answered task answer) h = let_go (task == t) h
  where
    let_go : (c : Bool) (h : Option Holder) → is_some (cond c None h) ≡ (is_some h && not c)
    let_go true None = refl
    let_go true (Some x) = refl
    let_go false None = refl
    let_go false (Some x) = refl
busy_by t by (Again task answer) h = let_go (task == t) h
  where
    let_go : (c : Bool) (h : Option Holder) → is_some (cond c None h) ≡ (is_some h && not c)
    let_go true None = refl
    let_go true (Some x) = refl
    let_go false None = refl
    let_go false (Some x) = refl
busy_by t by w h = refl

turned_plain : (o : Opening) (past : List Entry) (by : ℕ) (w : What) → IsTurned past w (past ++ entry by w ∷ due_after o past (entry by w))
turned_plain o past by w = record { claimed = claimed_group o past by w; busy = λ t. ap is_some (held t) ∙ busy_by t by w (holder past t) }
  where
    held : (t : ℕ) → holder (past ++ entry by w ∷ due_after o past (entry by w)) t ≡ turned_by t (holder past t) by w
    held t =
        holder_append past (entry by w ∷ due_after o past (entry by w)) t
        ∙ unturned t (turned_by t (holder past t) by w) (due_after o past (entry by w))
        (due_names claimed (λ c j v. refl) (λ c why. refl) (λ c j l. refl) o past by w) (due_names closed (λ c j v. refl) (λ c why. refl) (λ c j l. refl) o past by w)

turned_lead : (past : List Entry) (by child job task : ℕ) (name line : List ℕ) → IsTurned past (Lead child job name) (past ++ entry by (Lead child job name) ∷ entry by (Ask child job task line) ∷ [])
turned_lead past by child job task name line = record {
  claimed = λ t. claimed_append past (pair by child job task name line) t;
  busy = λ t. ap is_some (holder_append past (pair by child job task name line) t);
}

-- ---- an entry that may come is of a task that may be claimed or let go

number_found : (p : ℕ → Bool) (a n t : ℕ) → is_number t (find p (range_with_len a n)) ≡ true → (a ≤ t) × (t < a + n) × (p t ≡ true)
number_found p a zero t h = absurd cc
number_found p a (suc n) t h = go (p a) refl h (number_found p (a + 1) n t)
  where
    go : (b : Bool) → p a ≡ b → is_number t (cond b (Some a) (find p (range_with_len (a + 1) n))) ≡ true
        → (is_number t (find p (range_with_len (a + 1) n)) ≡ true → (a + 1 ≤ t) × (t < (a + 1) + n) × (p t ≡ true)) → (a ≤ t) × (t < a + suc n) × (p t ≡ true)
    go true e h r = let same : a ≡ t = eqb-true a t h in (omega (arith, same), omega (arith, same), subst (λ (k : ℕ). p k ≡ true) same e)
    go false e h r = let w = r h in (omega (arith, w.0), omega (arith, w.1), w.2)

held_among : (o : Opening) (past : List Entry) (q : Queue) (by task : ℕ) → IsQueued o past q → is_claimed_by past by task ≡ true → is_among q.busy.items task ≡ true
held_among o past q by task are held = are.said.busy task ∙ held_busy by (holder past task) held

next_so : (o : Opening) (past : List Entry) (by : ℕ) (w : What) (q : Queue) → IsQueued o past q → may_come o past by w ≡ true → IsNext w q
next_so o past by (Claim task child) q are may =
    let found = number_found (is_free o past) 1 (length o.tasks) task (both (is_number task (least_free o past)) _ may).0 in
    let within : task < length q.claimed.items = omega (arith, found.1, are.fits.long) in
    let unclaimed : is_claimed past task ≡ false =
    not-true (is_claimed past task) (both (not (is_claimed past task)) (not (list_any (λ (u : ℕ). is_busy past u && both_conflict (task_of o u) (task_of o task)) (numbers_of o))) found.2).0 in
    (omega (arith, found.0), within, are.said.claimed task (omega (arith, found.0)) within ∙ unclaimed)
next_so o past by (Answered task answer) q are may =
    held_among o past q by task are
    (both (is_claimed_by past by task) (not (has_open_job past task)) (both (is_claimed_by past by task && not (has_open_job past task)) (not (is_run_again o past task answer)) may).0).0
next_so o past by (Again task answer) q are may =
    held_among o past q by task are
    (both (is_claimed_by past by task) (not (has_open_job past task)) (both (is_claimed_by past by task && not (has_open_job past task)) (is_run_again o past task answer) may).0).0
next_so o past by w q are may = tt

-- ---- the group of a step

pub rest_is : (d e : Entry) (ds es : List Entry) → d ∷ ds ≡ e ∷ es → ds ≡ es
rest_is d e ds es h = cc

record Follows (past : List Entry) (by : ℕ) (w : What) (rest : List Entry) (q : Queue) : Type 0 where
  turned : IsTurned past w (past ++ entry by w ∷ rest)
  next : IsNext w q

follows : (o : Opening) (past : List Entry) (by : ℕ) (event : Event) (w : What) (rest : List Entry) (q : Queue) → length past < 2 ^ 64 → IsQueued o past q
    → entry by w ∷ rest ≡ (step_of o past by event).group → Follows past by w rest q
follows o past by event w rest q few are e = go (step_of o past by event) (step_came o past by event few) e
  where
    so : (v : What) (more : List Entry) → entry by w ∷ rest ≡ entry by v ∷ more → Follows past by v more q → Follows past by w rest q
    so v more same it =
        let head : v ≡ w = sym (ap (λ (x : Entry). x.what) (first_is (entry by w) (entry by v) rest more same)) in
        subst (λ (x : What). Follows past by x rest q) head (subst (λ (x : List Entry). Follows past by v x q) (sym (rest_is (entry by w) (entry by v) rest more same)) it)

    go : (s : Step) → Came o past by s → entry by w ∷ rest ≡ s.group → Follows past by w rest q
    go s (inl none) e = absurd (let no : entry by w ∷ rest ≡ [] = e ∙ none in cc)
    go s (inr (inl some)) e =
        so some.0 (due_after o past (entry by some.0)) (e ∙ some.2)
        (record { turned = turned_plain o past by some.0; next = next_so o past by some.0 q are (plain_may o past by some.0 some.1) })
    go s (inr (inr named)) e =
        so (Lead named.child named.job named.name) (entry by (Ask named.child named.job named.task named.line) ∷ []) (e ∙ named.is)
        (record { turned = turned_lead past by named.child named.job named.task named.name named.line; next = tt })

pub queue_fits : (o : Opening) (past : List Entry) (by : ℕ) (event : Event) (what : Option What) (due : Due) (q : Queue) → length past < 2 ^ 64 → IsQueued o past q
    → group_made past by what due ≡ (step_of o past by event).group → IsNextIn what q
queue_fits o past by event None due q few are e = tt
queue_fits o past by event (Some w) due q few are e = (follows o past by event w (made_by by (dues past due)) q few are e).next

pub queue_turns : (o : Opening) (past : List Entry) (by : ℕ) (event : Event) (what : Option What) (due : Due) (q : Queue) → length past < 2 ^ 64 → IsQueued o past q
    → group_made past by what due ≡ (step_of o past by event).group → IsTurnedIn past what (past ++ group_made past by what due)
queue_turns o past by event None due q few are e = append-nil past
queue_turns o past by event (Some w) due q few are e = (follows o past by event w (made_by by (dues past due)) q few are e).turned
