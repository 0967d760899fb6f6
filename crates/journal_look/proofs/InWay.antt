-- Only tasks that are held are in a task's way.
use Rattle.std.proofs.Common.{◌≡◌, ◌∙◌, ℕ, ◌+◌, ◌-◌, ◌<◌, ◌≤◌, List, [], ◌∷◌, refl, sym, ap, subst, Bool, true, false, cond, Option, Some, None, length, arith, zero, suc, inl, inr}
use Rattle.std.specs.Prelude.{◌==◌, ◌&&◌, ◌||◌, find, option_map, is_some, slice_get, fold, ◌⊎◌}
use Rattle.std.specs.List.{list_any, cons_option}
use Rattle.task_text.specs.declared.task.Task.{Task}
use Rattle.journal_model.specs.declared.holder.Holder.{Holder}
use Rattle.journal_model.specs.declared.entry.What.{What}
use Rattle.journal_model.specs.declared.entry.What.TheVariants.{Claim, Start, NoStart, Lead, Ask, Put, Sent, Mute, Got, End, Verdict as Settled, Lost, Answer as Answered, Note as Noted}
use Rattle.journal_model.specs.declared.entry.Entry.{Entry}
use Rattle.journal_model.specs.Journal.{each_of}
use Rattle.journal_model.specs.declared.opening.Opening.{Opening}
use Rattle.journal_model.specs.Legality.{both_conflict, claimed_for, has_busy_task, holder, is_busy, is_busy_with, is_held_for, numbers_of, task_of, turned, turned_by}
use Rattle.journal_model.proofs.Named.{any_there, claimed_in}
use Rattle.journal_look.specs.declared.held.Held.{Held}
use Rattle.journal_look.specs.Holds.{AreHeld, held_of}
use Rattle.ann_key.proofs.Booleans.{or_right, same_test as same_bool}
use Rattle.ann_key.proofs.Lists.{any_some as any_of, any_within}
use Rattle.std.proofs.lemmas.Bool.{ne_eqb as differ, eqb-true as same_number, and_parts as both_true}
use Rattle.ann_key.proofs.Numbers.{same_number as same}

-- the task of some element passes, and is found
any_held : (p : ℕ → Bool) (held : List Held) → list_any (λ h. p h.task) held ≡ true
    → (u : ℕ) × (p u ≡ true) × (is_some (find (λ h. h.task == u) held) ≡ true)
any_held p [] h = absurd cc
any_held p (x ∷ held) h = go (p x.task) refl h (any_held p held)
  where
    more : (b : Bool) (o : Option Held) → is_some o ≡ true → is_some (cond b (Some x) o) ≡ true
    more true o h = refl
    more false o h = h

    go : (b : Bool) → p x.task ≡ b → (b || list_any (λ (y : Held). p y.task) held) ≡ true
        → (list_any (λ (y : Held). p y.task) held ≡ true → (u : ℕ) × (p u ≡ true) × (is_some (find (λ (y : Held). y.task == u) held) ≡ true))
        → (u : ℕ) × (p u ≡ true) × (is_some (find (λ (y : Held). y.task == u) (x ∷ held)) ≡ true)
    go true e h r = (x.task, e, (let here = same x.task in rw here refl))
    go false e h r = let w = r h in (w.0, w.1, more (x.task == w.0) (find (λ (y : Held). y.task == w.0) held) w.2)

-- a task that is found and passes is one of the table's
pub found_any : (p : ℕ → Bool) (u : ℕ) (held : List Held) → is_some (find (λ h. h.task == u) held) ≡ true → p u ≡ true → list_any (λ h. p h.task) held ≡ true
found_any p u [] f h = absurd cc
found_any p u (x ∷ held) f h = go (x.task == u) refl f (λ k. found_any p u held k h)
  where
    go : (b : Bool) → (x.task == u) ≡ b → is_some (cond b (Some x) (find (λ (y : Held). y.task == u) held)) ≡ true
        → (is_some (find (λ (y : Held). y.task == u) held) ≡ true → list_any (λ (y : Held). p y.task) held ≡ true) → (p x.task || list_any (λ (y : Held). p y.task) held) ≡ true
    go true e f r = let here : p x.task ≡ true = subst (λ (k : ℕ). p k ≡ true) (sym (same_number x.task u e)) h in rw here refl
    go false e f r = or_right (p x.task) (list_any (λ (y : Held). p y.task) held) (r f)

-- a task that is in the way of one is among the opening's
among : (o : Opening) (u : ℕ) (other : Option Task) → both_conflict (task_of o u) other ≡ true → (1 ≤ u) × (u < 1 + length o.tasks)
among o zero other h = absurd cc
among o (suc u) other h = (omega arith, go (either u (length o.tasks)))
  where
    either : (k n : ℕ) → (k < n) ⊎ (n ≤ k)
    either k n = grind arith

    past : {X : Type 0} (xs : List X) (k : ℕ) → length xs ≤ k → slice_get xs k ≡ None
    past [] k long = refl
    past (x ∷ xs) zero long = absurd (omega arith)
    past (x ∷ xs) (suc k) long = past xs k (omega arith)

    go : (u < length o.tasks) ⊎ (length o.tasks ≤ u) → suc u < 1 + length o.tasks
    go (inl below) = omega arith
    go (inr over) =
        let less : suc u - 1 ≡ u = omega arith in
        let no_zero : (suc u == 0) ≡ false = differ (suc u) 0 (λ (h : suc u ≡ 0). (let none : ⊥ = omega arith in none)) in
        let nothing : task_of o (suc u) ≡ None = rw no_zero (ap (slice_get o.tasks) less ∙ past o.tasks u over) in
        let no : both_conflict (task_of o (suc u)) other ≡ false = ap (λ (t : Option Task). both_conflict t other) nothing in
        absurd (let two : false ≡ true = sym no ∙ h in cc)

busy_held : (o : Option Held) → is_some (option_map (λ (h : Held). h.by) o) ≡ is_some o
busy_held None = refl
busy_held (Some h) = refl

pub in_way : (o : Opening) (past : List Entry) (held : List Held) (t : ℕ) → AreHeld past held
    → list_any (λ h. both_conflict (task_of o h.task) (task_of o t)) held
    ≡ list_any (λ u. is_busy past u && both_conflict (task_of o u) (task_of o t)) (numbers_of o)
in_way o past held t are = same_bool (list_any (λ (h : Held). way h.task) held) (list_any (λ (u : ℕ). is_busy past u && way u) (numbers_of o)) to from
  where
    way : ℕ → Bool
    way u = both_conflict (task_of o u) (task_of o t)

    busy : (u : ℕ) → is_busy past u ≡ is_some (find (λ (h : Held). h.task == u) held)
    busy u = ap is_some (are.each u) ∙ busy_held (find (λ (h : Held). h.task == u) held)

    to : list_any (λ (h : Held). way h.task) held ≡ true → list_any (λ (u : ℕ). is_busy past u && way u) (numbers_of o) ≡ true
    to h =
        let w = any_held way held h in
        let in_it = among o w.0 (task_of o t) w.1 in
        let held_here : is_busy past w.0 ≡ true = busy w.0 ∙ w.2 in
        any_within (λ (u : ℕ). is_busy past u && way u) 1 (length o.tasks) w.0 in_it.0 in_it.1 (let here : way w.0 ≡ true = w.1 in rw (held_here, here) refl)

    from : list_any (λ (u : ℕ). is_busy past u && way u) (numbers_of o) ≡ true → list_any (λ (h : Held). way h.task) held ≡ true
    from h =
        let w = any_of (λ (u : ℕ). is_busy past u && way u) (numbers_of o) h in
        let both = both_true (is_busy past w.0) (way w.0) w.1 in
        found_any way w.0 held (sym (busy w.0) ∙ both.0) both.1

-- ---- a task that is held for a child

pub held_found : (c : ℕ) (o : Option Held) → is_held_for c (option_map (λ (h : Held). h.by) o) ≡ true → is_some o ≡ true
held_found c None h = absurd cc
held_found c (Some x) h = refl

pub busy_for : (past : List Entry) (held : List Held) (c : ℕ) → AreHeld past held
    → list_any (λ h. is_held_for c (held_of held h.task)) held ≡ has_busy_task past c
busy_for past held c are = same_bool (list_any (λ (h : Held). is_held_for c (held_of held h.task)) held) (has_busy_task past c) to from
  where
    to : list_any (λ (h : Held). is_held_for c (held_of held h.task)) held ≡ true → has_busy_task past c ≡ true
    to h =
        let w = any_held (λ (u : ℕ). is_held_for c (held_of held u)) held h in
        let here : is_held_for c (holder past w.0) ≡ true = ap (is_held_for c) (are.each w.0) ∙ w.1 in
        claimed w.0 (claimed_in past c w.0 None here) here
      where
        claimed : (u : ℕ) → (is_held_for c None ≡ true) ⊎ (list_any (λ (v : ℕ). v == u) (each_of (claimed_for c) past) ≡ true) → is_held_for c (holder past u) ≡ true → has_busy_task past c ≡ true
        claimed u (inl never) here = absurd cc
        claimed u (inr there) here = any_there (is_busy_with past c) u (each_of (claimed_for c) past) there here

    from : has_busy_task past c ≡ true → list_any (λ (h : Held). is_held_for c (held_of held h.task)) held ≡ true
    from h =
        let w = any_of (is_busy_with past c) (each_of (claimed_for c) past) h in
        let here : is_held_for c (held_of held w.0) ≡ true = ap (is_held_for c) (sym (are.each w.0)) ∙ w.1 in
        found_any (λ (u : ℕ). is_held_for c (held_of held u)) w.0 held (held_found c (find (λ (x : Held). x.task == w.0) held) here) here
