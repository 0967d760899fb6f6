-- What an entry makes due names no task, and a task is held from its claim to its answer.
use Rattle.std.proofs.Common.{◌≡◌, ℕ, List, [], ◌∷◌, ◌++◌, refl, sym, ap, subst, ◌∙◌, Bool, true, false, not, ◌==◌, cond, Some, None, Option, ◌⊎◌, inl, inr, length}
use Rattle.std.specs.Prelude.{◌&&◌, ◌||◌, map, filter, find, fold, is_some}
use Rattle.std.specs.List.{cons_option}
use Rattle.journal_model.specs.declared.verdict.Why.{Why}
use Rattle.journal_model.specs.declared.verdict.Verdict.{Verdict}
use Rattle.journal_model.specs.declared.verdict.Verdict.TheVariants.{Ended, Unsent}
use Rattle.journal_model.specs.declared.holder.Holder.{Holder}
use Rattle.journal_model.specs.declared.opening.Opening.{Opening}
use Rattle.journal_model.specs.declared.entry.What.{What}
use Rattle.journal_model.specs.declared.entry.What.TheVariants.{Claim, Put, Mute, Got, End, Verdict as Settled, Answer as Answered, Again}
use Rattle.journal_model.specs.declared.entry.Entry.{Entry}
use Rattle.journal_model.specs.Journal.{any, each_of, on_wire, is_live, is_open, is_unsent, open_jobs}
use Rattle.journal_model.specs.Due.{due_after, due_by_got, made_by, ending, verdict_at, replying}
use Rattle.journal_model.specs.Legality.{Legal, may_come, is_number, is_free, least_free, numbers_of, claims, claimed_after, claimed_on, answers, is_claimed, is_answered, is_run_again, is_busy, is_claimed_by, is_held_by, holder, turned, turned_by, has_open_job}
use Rattle.journal_model.proofs.Growing.{Near, Near-induction}
use Rattle.journal_model.proofs.Looks.{entry, any-append, settled_all}
use Rattle.journal_model.proofs.Soft.{got_cases}
use Rattle.ann_key.proofs.Booleans.{and_true, or_false, or_true}
use Rattle.std.proofs.lemmas.Bool.{not-true as not_true, eqb-true as same_number, and_parts as both}

-- ---- whom an entry names

abbrev pub claimed : What → Option ℕ
claimed (Claim task child) = Some task
claimed _ = None

abbrev pub answered : What → Option ℕ
answered (Answered task answer) = Some task
answered _ = None

-- the task of which the entry ends a run
abbrev pub closed : What → Option ℕ
closed (Answered task answer) = Some task
closed (Again task answer) = Some task
closed _ = None

-- ---- what a line makes due

-- nothing, the child's end, the verdict of an open job, or replies in one
abbrev pub GotDue : List Entry → ℕ → List What → Type 0
GotDue past child due =
    (due ≡ []) ⊎ ((why : Why) × (due ≡ ending past child why)) ⊎ ((j : ℕ) × (v : Verdict) × (is_open past child j ≡ true) × (due ≡ Settled child j v ∷ []))
    ⊎ ((j : ℕ) × (lines : List (List ℕ)) × (is_open past child j ≡ true) × (due ≡ replying past child j lines))

pub got_due : (o : Opening) (past : List Entry) (child : ℕ) (line : List ℕ) → GotDue past child (due_by_got o past child line)
got_due o past child line =
    got_cases (GotDue past child) o past child line (inl refl) (λ why soft. inr (inl (why, refl)))
    (λ j f opened. inr (inr (inl (j, verdict_at f (length past), opened, refl)))) (λ j ls opened for owed. inr (inr (inr (j, ls, opened, refl))))

-- ---- what is due names nobody but by an end, a verdict or a reply

pub verdicts_name : {X : Type 0} (f : What → Option X) → ((c j : ℕ) (v : Verdict) → f (Settled c j v) ≡ None)
    → (by child : ℕ) (v : Verdict) (ks : List ℕ) → each_of f (settled_all by child v ks) ≡ []
verdicts_name f none by child v [] = refl
verdicts_name f none by child v (k ∷ ks) = rw (none child k v) (verdicts_name f none by child v ks)

pub replies_name : {X : Type 0} (f : What → Option X) → ((c j : ℕ) (line : List ℕ) → f (Put c j line) ≡ None)
    → (past : List Entry) (by child j : ℕ) (lines : List (List ℕ)) → each_of f (made_by by (replying past child j lines)) ≡ []
replies_name f none past by child j [] = refl
replies_name f none past by child j (l ∷ ls) = rw (none child j (on_wire past child j l)) (replies_name f none past by child j ls)

pub due_names : {X : Type 0} (f : What → Option X) → ((c j : ℕ) (v : Verdict) → f (Settled c j v) ≡ None) → ((c : ℕ) (why : Why) → f (End c why) ≡ None)
    → ((c j : ℕ) (line : List ℕ) → f (Put c j line) ≡ None)
    → (o : Opening) (past : List Entry) (by : ℕ) (w : What) → each_of f (due_after o past (entry by w)) ≡ []
due_names f verdict end put o past by (End child why) = verdicts_name f verdict by child (Ended why) (open_jobs past child)
due_names f verdict end put o past by (Mute child) = by_life (is_live past child)
  where
    by_life : (b : Bool) → each_of f (made_by by (cond b (map (λ (k : ℕ). Settled child k Unsent) (filter (is_unsent past child) (open_jobs past child))) [])) ≡ []
    by_life true = verdicts_name f verdict by child Unsent (filter (is_unsent past child) (open_jobs past child))
    by_life false = refl
due_names f verdict end put o past by (Got child line) = by_due (due_by_got o past child line) (got_due o past child line)
  where
    by_due : (due : List What) → GotDue past child due → each_of f (made_by by due) ≡ []
    by_due due (inl e) = rw e refl
    by_due due (inr (inl e)) = rw (e.1, end child e.0) (verdicts_name f verdict by child (Ended e.0) (open_jobs past child))
    by_due due (inr (inr (inl e))) = rw (e.3, verdict child e.0 e.1) refl
    by_due due (inr (inr (inr e))) = rw e.3 (replies_name f put past by child e.0 e.1)
due_names f verdict end put o past by w = refl

-- ---- a task's holder

fold_append : {A X : Type 0} (f : A → X → A) (a : A) (xs ys : List X) → fold f a (xs ++ ys) ≡ fold f (fold f a xs) ys
fold_append f a [] ys = refl
fold_append f a (x ∷ xs) ys = fold_append f (f a x) xs ys

pub holder_append : (past more : List Entry) (t : ℕ) → holder (past ++ more) t ≡ fold (turned t) (holder past t) more
holder_append past more t = fold_append (turned t) None past more

-- entries that neither claim nor close leave it
pub unturned : (t : ℕ) (h : Option Holder) (xs : List Entry) → each_of claimed xs ≡ [] → each_of closed xs ≡ [] → fold (turned t) h xs ≡ h
unturned t h [] c a = refl
unturned t h (e ∷ xs) c a = go e.what c a (unturned t h xs)
  where
    go : (w : What) → cons_option (claimed w) (each_of claimed xs) ≡ [] → cons_option (closed w) (each_of closed xs) ≡ []
        → (each_of claimed xs ≡ [] → each_of closed xs ≡ [] → fold (turned t) h xs ≡ h) → fold (turned t) (turned_by t h e.by w) xs ≡ h
    go (Claim task child) c a r = absurd cc
    go (Answered task answer) c a r = absurd cc
    go (Again task answer) c a r = absurd cc
    go w c a r = r c a

-- ---- whether a task is claimed

pub claimed_append : (past more : List Entry) (t : ℕ) → is_claimed (past ++ more) t ≡ fold (claimed_on t) (is_claimed past t) more
claimed_append past more t = fold_append (claimed_on t) false past more

-- entries that neither claim nor close leave it too
pub unclaimed_on : (t : ℕ) (b : Bool) (xs : List Entry) → each_of claimed xs ≡ [] → each_of closed xs ≡ [] → fold (claimed_on t) b xs ≡ b
unclaimed_on t b [] c a = refl
unclaimed_on t b (e ∷ xs) c a = go e.what c a (unclaimed_on t b xs)
  where
    go : (w : What) → cons_option (claimed w) (each_of claimed xs) ≡ [] → cons_option (closed w) (each_of closed xs) ≡ []
        → (each_of claimed xs ≡ [] → each_of closed xs ≡ [] → fold (claimed_on t) b xs ≡ b) → fold (claimed_on t) (claimed_after t b w) xs ≡ b
    go (Claim task child) c a r = absurd cc
    go (Answered task answer) c a r = absurd cc
    go (Again task answer) c a r = absurd cc
    go w c a r = r c a

-- what an entry that comes, with what it makes due, makes of it
pub claimed_group : (o : Opening) (past : List Entry) (by : ℕ) (w : What) (t : ℕ) → is_claimed (past ++ entry by w ∷ due_after o past (entry by w)) t ≡ claimed_after t (is_claimed past t) w
claimed_group o past by w t =
    claimed_append past (entry by w ∷ due_after o past (entry by w)) t
    ∙ unclaimed_on t (claimed_after t (is_claimed past t) w) (due_after o past (entry by w))
    (due_names claimed (λ c j v. refl) (λ c why. refl) (λ c j l. refl) o past by w) (due_names closed (λ c j v. refl) (λ c why. refl) (λ c j l. refl) o past by w)

-- it is claimed only where it was, or by a claim
claimed_some_from : (t : ℕ) (b : Bool) (xs : List Entry) → fold (claimed_on t) b xs ≡ true → (b ≡ true) ⊎ (any (claims t) xs ≡ true)
claimed_some_from t b [] h = inl h
claimed_some_from t b (e ∷ xs) h = go (claimed_some_from t (claimed_after t b e.what) xs h)
  where
    first : (w : What) → claimed_after t b w ≡ true → (b ≡ true) ⊎ (claims t w ≡ true)
    first (Claim task child) k = either b (task == t) k
      where
        either : (b c : Bool) → (b || c) ≡ true → (b ≡ true) ⊎ (c ≡ true)
        either true c k = inl refl
        either false c k = inr k
    first (Again task answer) k = inl (both b (not (task == t)) k).0
    first w k = inl k

    later : (b ≡ true) ⊎ (claims t e.what ≡ true) → (b ≡ true) ⊎ ((claims t e.what || any (claims t) xs) ≡ true)
    later (inl k) = inl k
    later (inr k) = inr (rw k refl)

    go : (claimed_after t b e.what ≡ true) ⊎ (any (claims t) xs ≡ true) → (b ≡ true) ⊎ ((claims t e.what || any (claims t) xs) ≡ true)
    go (inl k) = later (first e.what k)
    go (inr k) = inr (right (claims t e.what) k)
      where
        right : (a : Bool) {b : Bool} → b ≡ true → (a || b) ≡ true
        right true k = refl
        right false k = k

pub claimed_some : (xs : List Entry) (t : ℕ) → is_claimed xs t ≡ true → any (claims t) xs ≡ true
claimed_some xs t h = go (claimed_some_from t false xs h)
  where
    go : (false ≡ true) ⊎ (any (claims t) xs ≡ true) → any (claims t) xs ≡ true
    go (inl bad) = absurd cc
    go (inr k) = k

-- a task that is claimed in the end was so in the first entries, or is by the rest
pub claimed_split : (past more : List Entry) (t : ℕ) → is_claimed (past ++ more) t ≡ true → (is_claimed past t ≡ true) ⊎ (is_claimed more t ≡ true)
claimed_split past more t h = go (is_claimed past t) (sym (claimed_append past more t) ∙ h)
  where
    go : (b : Bool) → fold (claimed_on t) b more ≡ true → (b ≡ true) ⊎ (is_claimed more t ≡ true)
    go true k = inl refl
    go false k = inr k

-- who is held is claimed
held_claimed_from : (t : ℕ) (h : Option Holder) (b : Bool) (xs : List Entry) → (is_some h ≡ true → b ≡ true) → is_some (fold (turned t) h xs) ≡ true → fold (claimed_on t) b xs ≡ true
held_claimed_from t h b [] k s = k s
held_claimed_from t h b (e ∷ xs) k s = held_claimed_from t (turned_by t h e.by e.what) (claimed_after t b e.what) xs (step e.what) s
  where
    step : (w : What) → is_some (turned_by t h e.by w) ≡ true → claimed_after t b w ≡ true
    step (Claim task child) = go (task == t)
      where
        go : (c : Bool) → is_some (cond c (Some (record { by = e.by; child = child })) h) ≡ true → (b || c) ≡ true
        go true s = or_true b
        go false s = rw (k s) refl
    step (Answered task answer) = go (task == t)
      where
        go : (c : Bool) → is_some (cond c None h) ≡ true → b ≡ true
        go true s = absurd cc
        go false s = k s
    step (Again task answer) = go (task == t)
      where
        go : (c : Bool) → is_some (cond c None h) ≡ true → (b && not c) ≡ true
        go true s = absurd cc
        go false s = rw (k s) refl
    step w = k

pub held_claimed : (past : List Entry) (t : ℕ) → is_busy past t ≡ true → is_claimed past t ≡ true
held_claimed past t h = held_claimed_from t None false past (λ s. absurd cc) h

-- without a claim no one holds it
pub unclaimed_unheld : (t : ℕ) (xs : List Entry) → each_of claimed xs ≡ [] → holder xs t ≡ None
unclaimed_unheld t [] c = refl
unclaimed_unheld t (e ∷ xs) c = go e.what c (unclaimed_unheld t xs)
  where
    go : (w : What) → cons_option (claimed w) (each_of claimed xs) ≡ [] → (each_of claimed xs ≡ [] → fold (turned t) None xs ≡ None)
        → fold (turned t) (turned_by t None e.by w) xs ≡ None
    go (Claim task child) c r = absurd cc
    go (Answered task answer) c r = off (task == t)
      where
        off : (b : Bool) → fold (turned t) (cond {A = Option Holder} b None None) xs ≡ None
        off true = r c
        off false = r c
    go (Again task answer) c r = off (task == t)
      where
        off : (b : Bool) → fold (turned t) (cond {A = Option Holder} b None None) xs ≡ None
        off true = r c
        off false = r c
    go w c r = r c

none_answer : (t : ℕ) (xs : List Entry) → each_of answered xs ≡ [] → any (answers t) xs ≡ false
none_answer t [] a = refl
none_answer t (e ∷ xs) a = go e.what a (none_answer t xs)
  where
    go : (w : What) → cons_option (answered w) (each_of answered xs) ≡ [] → (each_of answered xs ≡ [] → any (answers t) xs ≡ false) → (answers t w || any (answers t) xs) ≡ false
    go (Answered task answer) a r = absurd cc
    go w a r = r a

pub held_busy : (by : ℕ) (h : Option Holder) → is_held_by by h ≡ true → is_some h ≡ true
held_busy by None h = absurd cc
held_busy by (Some x) h = refl

-- ---- a task is held from its claim to its answer

-- held exactly while it is claimed and not answered, and answered only where it was claimed
abbrev Fits : Option Holder → Bool → Bool → Type 0
Fits h k a = (is_some h ≡ (k && not a)) × (a ≡ true → k ≡ true)

fits_claim : (x : Holder) (k a : Bool) → k ≡ false → (a ≡ true → k ≡ true) → Fits (Some x) (k || true) (a || false)
fits_claim x true a fresh known = absurd cc
fits_claim x false true fresh known = absurd (let bad : false ≡ true = known refl in cc)
fits_claim x false false fresh known = (refl, λ h. absurd cc)

fits_answer : (by : ℕ) (h : Option Holder) (k a : Bool) → is_held_by by h ≡ true → Fits h k a → Fits None k (a || true)
fits_answer by None k a held f = absurd cc
fits_answer by (Some x) true true held f = (refl, λ h. refl)
fits_answer by (Some x) true false held f = (refl, λ h. refl)
fits_answer by (Some x) false a held f = absurd (let bad : true ≡ false = f.0 in cc)

fits_again : (by : ℕ) (h : Option Holder) (k a : Bool) → is_held_by by h ≡ true → Fits h k a → Fits None (k && false) (a || false)
fits_again by None k a held f = absurd cc
fits_again by (Some x) true true held f = absurd (let bad : true ≡ false = f.0 in cc)
fits_again by (Some x) true false held f = (refl, λ h. absurd cc)
fits_again by (Some x) false a held f = absurd (let bad : true ≡ false = f.0 in cc)

first_passes : (p : ℕ → Bool) (t : ℕ) (ts : List ℕ) → is_number t (find p ts) ≡ true → p t ≡ true
first_passes p t [] h = absurd cc
first_passes p t (x ∷ xs) h = go (p x) refl h (first_passes p t xs)
  where
    go : (b : Bool) → p x ≡ b → is_number t (cond b (Some x) (find p xs)) ≡ true → (is_number t (find p xs) ≡ true → p t ≡ true) → p t ≡ true
    go true e h r = subst (λ (y : ℕ). p y ≡ true) (same_number x t h) e
    go false e h r = r h

-- who ends a run holds the task
pub closing_claims : (past : List Entry) (by task : ℕ) (last : Bool) → (is_claimed_by past by task && not (has_open_job past task) && last) ≡ true → is_claimed_by past by task ≡ true
closing_claims past by task last h =
    (both (is_claimed_by past by task) (not (has_open_job past task)) (both (is_claimed_by past by task && not (has_open_job past task)) last h).0).0

-- and the task has no open job
pub closing_shut : (past : List Entry) (by task : ℕ) (last : Bool) → (is_claimed_by past by task && not (has_open_job past task) && last) ≡ true → has_open_job past task ≡ false
closing_shut past by task last h =
    not_true (has_open_job past task)
    (both (is_claimed_by past by task) (not (has_open_job past task)) (both (is_claimed_by past by task && not (has_open_job past task)) last h).0).1

held_step : (o : Opening) (past : List Entry) (by : ℕ) (w : What) (t : ℕ) → Fits (holder past t) (is_claimed past t) (is_answered past t) → may_come o past by w ≡ true
    → Fits (holder (past ++ entry by w ∷ due_after o past (entry by w)) t) (is_claimed (past ++ entry by w ∷ due_after o past (entry by w)) t) (is_answered (past ++ entry by w ∷ due_after o past (entry by w)) t)
held_step o past by w t f may =
    let due = due_after o past (entry by w) in
    let c : each_of claimed due ≡ [] = due_names claimed (λ c j v. refl) (λ c why. refl) (λ c j l. refl) o past by w in
    let a : each_of answered due ≡ [] = due_names answered (λ c j v. refl) (λ c why. refl) (λ c j l. refl) o past by w in
    let held : holder (past ++ entry by w ∷ due) t ≡ turned_by t (holder past t) by w =
    holder_append past (entry by w ∷ due) t
    ∙ unturned t (turned_by t (holder past t) by w) due c (due_names closed (λ c j v. refl) (λ c why. refl) (λ c j l. refl) o past by w) in
    let claim : is_claimed (past ++ entry by w ∷ due) t ≡ claimed_after t (is_claimed past t) w = claimed_group o past by w t in
    let answer : is_answered (past ++ entry by w ∷ due) t ≡ (is_answered past t || answers t w) =
    any-append (answers t) past (entry by w ∷ due) ∙ ap (λ (b : Bool). is_answered past t || (answers t w || b)) (none_answer t due a) ∙ ap (λ (b : Bool). is_answered past t || b) (or_false (answers t w)) in
    along held claim answer (step w may)
  where
    along : {h g : Option Holder} {k l : Bool} {a b : Bool} → g ≡ h → l ≡ k → b ≡ a → Fits h k a → Fits g l b
    along e u v f = rw (e, u, v) f

    step : (w : What) → may_come o past by w ≡ true → Fits (turned_by t (holder past t) by w) (claimed_after t (is_claimed past t) w) (is_answered past t || answers t w)
    step (Claim task child) may = go (task == t) refl
      where
        fresh : is_claimed past task ≡ false
        fresh =
            let free : is_free o past task ≡ true = first_passes (is_free o past) task (numbers_of o) (both (is_number task (least_free o past)) _ may).0 in
            not_true (is_claimed past task) (both (not (is_claimed past task)) _ free).0

        go : (b : Bool) → (task == t) ≡ b → Fits (cond b (Some (record { by = by; child = child })) (holder past t)) (is_claimed past t || b) (is_answered past t || false)
        go true e = fits_claim (record { by = by; child = child }) (is_claimed past t) (is_answered past t) (ap (is_claimed past) (sym (same_number task t e)) ∙ fresh) f.1
        go false e = rw (or_false (is_claimed past t), or_false (is_answered past t)) f
    step (Answered task answer) may = go (task == t) refl
      where
        mine : is_claimed_by past by task ≡ true
        mine = closing_claims past by task (not (is_run_again o past task answer)) may

        go : (b : Bool) → (task == t) ≡ b → Fits (cond b None (holder past t)) (is_claimed past t) (is_answered past t || b)
        go true e = fits_answer by (holder past t) (is_claimed past t) (is_answered past t) (ap (λ (k : ℕ). is_claimed_by past by k) (sym (same_number task t e)) ∙ mine) f
        go false e = rw (or_false (is_answered past t)) f
    step (Again task answer) may = go (task == t) refl
      where
        mine : is_claimed_by past by task ≡ true
        mine = closing_claims past by task (is_run_again o past task answer) may

        go : (b : Bool) → (task == t) ≡ b → Fits (cond b None (holder past t)) (is_claimed past t && not b) (is_answered past t || false)
        go true e = fits_again by (holder past t) (is_claimed past t) (is_answered past t) (ap (λ (k : ℕ). is_claimed_by past by k) (sym (same_number task t e)) ∙ mine) f
        go false e = rw (and_true (is_claimed past t), or_false (is_answered past t)) f
    step w may = rw (or_false (is_answered past t)) f

pub held_near : (o : Opening) (journal : List Entry) → Near o journal → (t : ℕ) → is_busy journal t ≡ (is_claimed journal t && not (is_answered journal t))
held_near o journal near t =
    (Near-induction o (λ p. Fits (holder p t) (is_claimed p t) (is_answered p t)) (refl, λ h. absurd cc) (λ p e l f may. held_step o p e.by e.what t f may) journal near).0

pub held_unanswered : (o : Opening) (journal : List Entry) → Legal o journal → (t : ℕ) → is_busy journal t ≡ (is_claimed journal t && not (is_answered journal t))
held_unanswered o journal legal t = held_near o journal (inl legal) t
