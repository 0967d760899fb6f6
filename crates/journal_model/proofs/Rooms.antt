-- A legal journal is no longer than its room.
use Rattle.std.proofs.Common.{◌≡◌, ℕ, zero, suc, List, [], ◌∷◌, ◌++◌, ◌+◌, ◌*◌, ◌≤◌, refl, sym, ap, subst, ◌∙◌, Bool, true, false, length, not, ◌==◌, cond, Some, None, Option, arith, inl, inr, length-append, length-drop, suc-mul, zero-mul, ◌<◌}
use Rattle.std.specs.Prelude.{◌&&◌, ◌||◌, nat_lt, map, filter, find}
use Rattle.std.specs.List.{list_any, cons_option, sum_by}
use Rattle.std.proofs.lemmas.List.{append-nil}
use Rattle.std.proofs.lemmas.List.FromFn.{length-range_with_len}
use Rattle.std.proofs.lemmas.List.Sums.{sum_by-append, sum_by-cons, length-filter}
use Rattle.journal_model.specs.declared.verdict.Verdict.{Verdict}
use Rattle.journal_model.specs.declared.verdict.Verdict.TheVariants.{Ended, Unsent}
use Rattle.journal_model.specs.declared.opening.Opening.{Opening}
use Rattle.journal_model.specs.declared.entry.What.{What}
use Rattle.journal_model.specs.declared.entry.What.TheVariants.{Claim, Start, NoStart, Lead, Ask, Put, Sent, Mute, Got, End, Verdict as Settled, Lost, Answer as Answered, Note as Noted, Again}
use Rattle.journal_model.specs.declared.entry.Entry.{Entry}
use Rattle.journal_model.specs.Journal.{any, each_of, on_wire, asks, asked_jobs, writes, sends, unsent, settles, starts, ends, mutes, is_settled, is_started, is_ended, is_mute, is_live, is_open, is_unsent, open_jobs}
use Rattle.journal_model.specs.Due.{due_after, due_by_got, made_by, replying}
use Rattle.journal_model.specs.Legality.{Legal, may_come, may_stop, is_number, is_free, numbers_of, claims, renews, closes, answers, is_claimed, is_claimed_by, is_answered, is_run_again, is_of_lost_child, is_held_over_child, has_open_job, holder, is_empty, count, Follows}
use Rattle.journal_model.specs.Registers.{is_got}
use Rattle.journal_model.specs.Room.{room_for, room_for_all, room_of, is_put, is_ask}
use Rattle.journal_model.proofs.Growing.{Near, Legal-induction, none_asks, due_none_asks, one_ask}
use Rattle.journal_model.proofs.Looks.{entry, each_of-append, settled_all}
use Rattle.journal_model.proofs.Working.{claims_counted, count-append, count_one, due_untasked, one_if, unrenewed_in}
use Rattle.std.proofs.lemmas.Bool.Decides.{nat_tests}
use Rattle.journal_model.proofs.Holding.{claimed, closed, closing_claims, GotDue, got_due, verdicts_name, replies_name, due_names, held_busy, held_near}
use Rattle.journal_model.proofs.Counting.{IsSame, same_nat, nat_is_same, same_pair, pair_is_same, Pair, one, many, many-cons, many-append, AtMost, AtMost-length, more_none, more_one, holds, named_none, named_some, named_count, named_length, is_there, filter_at_most, filter_drops}
use Rattle.std.proofs.lemmas.Bool.{eqb-true as same_number, and_parts as both, not-true as not_true}
use Rattle.ann_key.proofs.Booleans.{left_false as either_left, right_false as either_right}

-- ---- whom an entry names

abbrev started : What → Option ℕ
started (Start child slot offer) = Some child
started _ = None

abbrev ended : What → Option ℕ
ended (End child why) = Some child
ended _ = None

abbrev muted : What → Option ℕ
muted (Mute child) = Some child
muted _ = None

abbrev sent : What → Option ℕ
sent (Sent child) = Some child
sent _ = None

abbrev written : What → Option ℕ
written (Lead child job line) = Some child
written (Ask child job task line) = Some child
written (Put child job line) = Some child
written _ = None

abbrev asked : What → Option Pair
asked (Ask child job task line) = Some (child, job)
asked _ = None

abbrev settled : What → Option Pair
settled (Settled child job verdict) = Some (child, job)
settled _ = None

-- ---- at most as many of one kind as of another

grow_none : {X : Type 0} (eq : X → X → Bool) (f g : What → Option X) (past group : List Entry) → each_of f group ≡ []
    → AtMost eq (each_of f past) (each_of g past) → AtMost eq (each_of f (past ++ group)) (each_of g (past ++ group))
grow_none eq f g past group none h =
    let fs = each_of-append f past group ∙ ap (λ (xs : List _). each_of f past ++ xs) none in
    let gs = each_of-append g past group in
    rw (fs, gs) (more_none eq (each_of f past) (each_of g past) (each_of g group) h)

grow_one : {X : Type 0} (eq : X → X → Bool) → IsSame eq → (f g : What → Option X) (past group : List Entry) (x : X) → each_of f group ≡ x ∷ []
    → many eq x (each_of f past) ≡ 0 → 1 ≤ many eq x (each_of g past)
    → AtMost eq (each_of f past) (each_of g past) → AtMost eq (each_of f (past ++ group)) (each_of g (past ++ group))
grow_one eq is f g past group x single none some h =
    let fs = each_of-append f past group ∙ ap (λ (xs : List _). each_of f past ++ xs) single in
    let gs = each_of-append g past group in
    rw (fs, gs) (more_one eq is (each_of f past) (each_of g past) (each_of g group) x h (omega (arith, none, some)))

grow_some : {X : Type 0} (eq : X → X → Bool) → IsSame eq → (f g : What → Option X) (past group : List Entry) (x : X) → each_of f group ≡ x ∷ []
    → many eq x (each_of f past) + 1 ≤ many eq x (each_of g past)
    → AtMost eq (each_of f past) (each_of g past) → AtMost eq (each_of f (past ++ group)) (each_of g (past ++ group))
grow_some eq is f g past group x single room h =
    let fs = each_of-append f past group ∙ ap (λ (xs : List _). each_of f past ++ xs) single in
    let gs = each_of-append g past group in
    rw (fs, gs) (more_one eq is (each_of f past) (each_of g past) (each_of g group) x h room)

-- ---- claims, and what ends runs

claims_is : (t : ℕ) (w : What) → claims t w ≡ holds same_nat t (claimed w)
claims_is t (Claim task child) = refl
claims_is t w = refl

closes_is : (t : ℕ) (w : What) → closes t w ≡ holds same_nat t (closed w)
closes_is t (Answered task answer) = refl
closes_is t (Again task answer) = refl
closes_is t w = refl

-- as often as a count says
counted : (f : What → Option ℕ) (p : What → Bool) (t : ℕ) → ((w : What) → p w ≡ holds same_nat t (f w)) → (past : List Entry) → count p past ≡ many same_nat t (each_of f past)
counted f p t is past = length-filter (λ (e : Entry). p e.what) past ∙ named_count same_nat f p t is past

-- a list so many times
abbrev copies : ℕ → List ℕ → List ℕ
copies zero xs = []
copies (suc n) xs = xs ++ copies n xs

copies_many : (t n : ℕ) (xs : List ℕ) → 1 ≤ many same_nat t xs → n ≤ many same_nat t (copies n xs)
copies_many t zero xs h = omega arith
copies_many t (suc n) xs h =
    let all = many-append same_nat t xs (copies n xs) in
    let r : n ≤ many same_nat t (copies n xs) = copies_many t n xs h in
    omega (arith, all, r, h)

copies_long : (n : ℕ) (xs : List ℕ) → length (copies n xs) ≡ n * length xs
copies_long zero xs = sym (zero-mul (length xs))
copies_long (suc n) xs =
    let all : length (xs ++ copies n xs) ≡ length xs + length (copies n xs) = length-append xs (copies n xs) in
    omega (arith, all, copies_long n xs, suc-mul n (length xs))

found : (p : ℕ → Bool) (t : ℕ) (xs : List ℕ) → is_number t (find p xs) ≡ true → (p t ≡ true) × (1 ≤ many same_nat t xs)
found p t [] h = absurd cc
found p t (x ∷ xs) h = go (p x) refl h (found p t xs)
  where
    all : many same_nat t (x ∷ xs) ≡ one (x == t) + many same_nat t xs
    all = many-cons same_nat t x xs

    go : (b : Bool) → p x ≡ b → is_number t (cond b (Some x) (find p xs)) ≡ true → (is_number t (find p xs) ≡ true → (p t ≡ true) × (1 ≤ many same_nat t xs))
        → (p t ≡ true) × (1 ≤ many same_nat t (x ∷ xs))
    go true e h r =
        let i : one (x == t) ≡ 1 = ap one h in
        (subst (λ (y : ℕ). p y ≡ true) (same_number x t h) e, omega (arith, all, i))
    go false e h r =
        let s : 1 ≤ many same_nat t xs = (r h).1 in
        ((r h).0, omega (arith, all, s))

-- a task is to be run again at most as often as the opening says
record Renewed (o : Opening) (past : List Entry) : Type 0 where
  few : (t : ℕ) → count (renews t) past ≤ o.again

renewed_step : (o : Opening) (past : List Entry) (by : ℕ) (w : What) → Renewed o past → may_come o past by w ≡ true → Renewed o (past ++ entry by w ∷ due_after o past (entry by w))
renewed_step o past by w h may = record { few = few }
  where
    due : List Entry
    due = due_after o past (entry by w)

    few : (t : ℕ) → count (renews t) (past ++ entry by w ∷ due) ≤ o.again
    few t =
        let all = count-append (renews t) past (entry by w ∷ due) in
        let first = count_one (renews t) (entry by w) due (unrenewed_in t due (due_untasked o past by t w)) in
        omega (arith, all, first, one_more w may)
      where
        one_more : (w : What) → may_come o past by w ≡ true → count (renews t) past + one_if (renews t w) ≤ o.again
        one_more (Again task answer) may = go (task == t) refl
          where
            go : (b : Bool) → (task == t) ≡ b → count (renews t) past + one_if b ≤ o.again
            go true e =
                let again : is_run_again o past task answer ≡ true = (both (is_claimed_by past by task && not (has_open_job past task)) (is_run_again o past task answer) may).1 in
                let room : nat_lt (count (renews task) past) o.again ≡ true = (both (is_of_lost_child answer && is_held_over_child (holder past task)) (nat_lt (count (renews task) past) o.again) again).1 in
                let here : count (renews t) past < o.again = subst (λ (x : ℕ). count (renews x) past < o.again) (same_number task t e) (grind (arith, nat_tests, room)) in
                omega (arith, here)
            go false e = (let before = h.few t in omega (arith, before))
        one_more w may = (let before = h.few t in omega (arith, before))

abbrev Claims : Opening → List Entry → Type 0
Claims o past = AtMost same_nat (each_of claimed past) (copies (1 + o.again) (numbers_of o))

claims_kept : (o : Opening) (past group : List Entry) → each_of claimed group ≡ [] → Claims o past → Claims o (past ++ group)
claims_kept o past group none h = rw (each_of-append claimed past group, none, append-nil (each_of claimed past)) h

claims_step : (o : Opening) (past : List Entry) (by : ℕ) (w : What) → Near o past → Renewed o past → Claims o past → may_come o past by w ≡ true
    → Claims o (past ++ entry by w ∷ due_after o past (entry by w))
claims_step o past by (Claim task child) near renewed h may =
    let group = entry by (Claim task child) ∷ [] in
    let times = copies (1 + o.again) (numbers_of o) in
    let free = found (is_free o past) task (numbers_of o) (both _ _ may).0 in
    let fresh : is_claimed past task ≡ false = not_true (is_claimed past task) (both _ _ free.0).0 in
    let so_many = counted claimed (claims task) task (claims_is task) past in
    let equal : count (claims task) past ≡ count (renews task) past = claims_counted o past near task ∙ (rw fresh (omega arith)) in
    let few = renewed.few task in
    let some : 1 + o.again ≤ many same_nat task times = copies_many task (1 + o.again) (numbers_of o) free.1 in
    let a = more_one same_nat nat_is_same (each_of claimed past) times [] task h (omega (arith, so_many, equal, few, some)) in
    let b : AtMost same_nat (each_of claimed past ++ task ∷ []) times =
    subst (λ (xs : List ℕ). AtMost same_nat (each_of claimed past ++ task ∷ []) xs) (append-nil times) a in
    rw (each_of-append claimed past group) b
claims_step o past by w near renewed h may =
    claims_kept o past (entry by w ∷ due_after o past (entry by w)) (due_names claimed (λ c j v. refl) (λ c why. refl) (λ c j l. refl) o past by w) h

-- while a task isn't answered its runs were ended by Agains alone
ends_counted : (t : ℕ) (past : List Entry) → is_answered past t ≡ false → count (closes t) past ≡ count (renews t) past
ends_counted t [] h = refl
ends_counted t (e ∷ past) h = go e.what (either_left (answers t e.what) (any (answers t) past) h) (ends_counted t past (either_right (answers t e.what) (any (answers t) past) h))
  where
    go : (w : What) → answers t w ≡ false → count (closes t) past ≡ count (renews t) past → count (closes t) (entry e.by w ∷ past) ≡ count (renews t) (entry e.by w ∷ past)
    go (Answered task answer) a r = rw a r
    go (Again task answer) a r = by_number (task == t) r
      where
        by_number : (b : Bool) → count (closes t) past ≡ count (renews t) past
            → length (cond b (entry e.by (Again task answer) ∷ filter (λ (x : Entry). closes t x.what) past) (filter (λ (x : Entry). closes t x.what) past))
            ≡ length (cond b (entry e.by (Again task answer) ∷ filter (λ (x : Entry). renews t x.what) past) (filter (λ (x : Entry). renews t x.what) past))
        by_number true r = omega (arith, r)
        by_number false r = r
    go w a r = r

-- each run that was ended was begun
closes_one : (o : Opening) (past : List Entry) (by task : ℕ) → Near o past → is_claimed_by past by task ≡ true → many same_nat task (each_of closed past) + 1 ≤ many same_nat task (each_of claimed past)
closes_one o past by task near mine =
    let held = held_busy by (holder past task) mine in
    let busy = both (is_claimed past task) (not (is_answered past task)) (sym (held_near o past near task) ∙ held) in
    let ended = ends_counted task past (not_true (is_answered past task) busy.1) in
    let begun : count (claims task) past ≡ 1 + count (renews task) past = claims_counted o past near task ∙ (rw busy.0 refl) in
    let cs = counted closed (closes task) task (closes_is task) past in
    let ks = counted claimed (claims task) task (claims_is task) past in
    omega (arith, ended, begun, cs, ks)

closes_step : (o : Opening) (past : List Entry) (by : ℕ) (w : What) → Near o past → AtMost same_nat (each_of closed past) (each_of claimed past) → may_come o past by w ≡ true
    → AtMost same_nat (each_of closed (past ++ entry by w ∷ due_after o past (entry by w))) (each_of claimed (past ++ entry by w ∷ due_after o past (entry by w)))
closes_step o past by (Answered task answer) near h may =
    grow_some same_nat nat_is_same closed claimed past (entry by (Answered task answer) ∷ []) task refl
    (closes_one o past by task near (closing_claims past by task (not (is_run_again o past task answer)) may)) h
closes_step o past by (Again task answer) near h may =
    grow_some same_nat nat_is_same closed claimed past (entry by (Again task answer) ∷ []) task refl
    (closes_one o past by task near (closing_claims past by task (is_run_again o past task answer) may)) h
closes_step o past by w near h may =
    grow_none same_nat closed claimed past (entry by w ∷ due_after o past (entry by w)) (due_names closed (λ c j v. refl) (λ c why. refl) (λ c j l. refl) o past by w) h

-- ---- starts, mutes and ends

starts_is : (c : ℕ) (w : What) → starts c w ≡ holds same_nat c (started w)
starts_is c (Start child slot offer) = refl
starts_is c w = refl

ends_is : (c : ℕ) (w : What) → ends c w ≡ holds same_nat c (ended w)
ends_is c (End child why) = refl
ends_is c w = refl

mutes_is : (c : ℕ) (w : What) → mutes c w ≡ holds same_nat c (muted w)
mutes_is c (Mute child) = refl
mutes_is c w = refl

mutes_step : (o : Opening) (past : List Entry) (by : ℕ) (w : What) → AtMost same_nat (each_of muted past) (each_of started past) → may_come o past by w ≡ true
    → AtMost same_nat (each_of muted (past ++ entry by w ∷ due_after o past (entry by w))) (each_of started (past ++ entry by w ∷ due_after o past (entry by w)))
mutes_step o past by (Mute child) h may =
    let t = both (is_started past child) (not (is_mute past child)) may in
    let none = named_none same_nat muted (mutes child) child (mutes_is child) past (not_true _ t.1) in
    let some = named_some same_nat started (starts child) child (starts_is child) past t.0 in
    let due = due_names muted (λ c j v. refl) (λ c why. refl) (λ c j l. refl) o past by (Mute child) in
    grow_one same_nat nat_is_same muted started past (entry by (Mute child) ∷ due_after o past (entry by (Mute child))) child (ap (λ (xs : List ℕ). child ∷ xs) due) none some h
mutes_step o past by w h may =
    grow_none same_nat muted started past (entry by w ∷ due_after o past (entry by w)) (due_names muted (λ c j v. refl) (λ c why. refl) (λ c j l. refl) o past by w) h

abbrev Ends : List Entry → Type 0
Ends past = AtMost same_nat (each_of ended past) (each_of started past)

-- a live child may end
end_grow : (past group : List Entry) (child : ℕ) → each_of ended group ≡ child ∷ [] → is_live past child ≡ true → Ends past → Ends (past ++ group)
end_grow past group child single live h =
    let t = both (is_started past child) (not (is_ended past child)) live in
    let none = named_none same_nat ended (ends child) child (ends_is child) past (not_true _ t.1) in
    let some = named_some same_nat started (starts child) child (starts_is child) past t.0 in
    grow_one same_nat nat_is_same ended started past group child single none some h

verdicts_end : (by child : ℕ) (v : Verdict) (ks : List ℕ) → each_of ended (settled_all by child v ks) ≡ []
verdicts_end by child v ks = verdicts_name ended (λ c j v. refl) by child v ks

ends_step : (o : Opening) (past : List Entry) (by : ℕ) (w : What) → Ends past → may_come o past by w ≡ true
    → Ends (past ++ entry by w ∷ due_after o past (entry by w))
ends_step o past by (End child why) h may =
    end_grow past (entry by (End child why) ∷ due_after o past (entry by (End child why))) child
    (ap (λ (xs : List ℕ). child ∷ xs) (verdicts_end by child (Ended why) (open_jobs past child))) (both (is_live past child) (may_stop past child why) may).0 h
ends_step o past by (Mute child) h may = by_life (is_live past child)
  where
    by_life : (b : Bool)
        → Ends (past ++ entry by (Mute child) ∷ made_by by (cond b (map (λ (k : ℕ). Settled child k Unsent) (filter (is_unsent past child) (open_jobs past child))) []))
    by_life true =
        let ks = filter (is_unsent past child) (open_jobs past child) in
        grow_none same_nat ended started past (entry by (Mute child) ∷ settled_all by child Unsent ks) (verdicts_end by child Unsent ks) h
    by_life false = grow_none same_nat ended started past (entry by (Mute child) ∷ []) refl h
ends_step o past by (Got child line) h may = by_due (due_by_got o past child line) (got_due o past child line)
  where
    by_due : (due : List What) → GotDue past child due → Ends (past ++ entry by (Got child line) ∷ made_by by due)
    by_due due (inl e) = subst (λ (ws : List What). Ends (past ++ entry by (Got child line) ∷ made_by by ws)) (sym e) (grow_none same_nat ended started past (entry by (Got child line) ∷ []) refl h)
    by_due due (inr (inl e)) =
        subst (λ (ws : List What). Ends (past ++ entry by (Got child line) ∷ made_by by ws)) (sym e.1)
        (end_grow past (entry by (Got child line) ∷ entry by (End child e.0) ∷ settled_all by child (Ended e.0) (open_jobs past child)) child
        (ap (λ (xs : List ℕ). child ∷ xs) (verdicts_end by child (Ended e.0) (open_jobs past child))) (both (is_live past child) _ (both _ _ may).0).0 h)
    by_due due (inr (inr (inl e))) =
        subst (λ (ws : List What). Ends (past ++ entry by (Got child line) ∷ made_by by ws)) (sym e.3)
        (grow_none same_nat ended started past (entry by (Got child line) ∷ entry by (Settled child e.0 e.1) ∷ []) refl h)
    by_due due (inr (inr (inr e))) =
        subst (λ (ws : List What). Ends (past ++ entry by (Got child line) ∷ made_by by ws)) (sym e.3)
        (grow_none same_nat ended started past (entry by (Got child line) ∷ made_by by (replying past child e.0 e.1)) (replies_name ended (λ c j l. refl) past by child e.0 e.1) h)
ends_step o past by w h may = grow_none same_nat ended started past (entry by w ∷ []) refl h

-- ---- what is written and sent

sends_is : (c : ℕ) (w : What) → sends c w ≡ holds same_nat c (sent w)
sends_is c (Sent child) = refl
sends_is c w = refl

writes_is : (c : ℕ) (w : What) → is_there same_nat (writes c w) ≡ holds same_nat c (written w)
writes_is c (Ask child job task line) = go (child == c)
  where
    go : (b : Bool) → is_there same_nat {Y = Option ℕ × List ℕ} (cond b (Some (Some job, line)) None) ≡ b
    go true = refl
    go false = refl
writes_is c (Lead child job line) = go (child == c)
  where
    go : (b : Bool) → is_there same_nat {Y = Option ℕ × List ℕ} (cond b (Some (None, line)) None) ≡ b
    go true = refl
    go false = refl
writes_is c (Put child job line) = go (child == c)
  where
    go : (b : Bool) → is_there same_nat {Y = Option ℕ × List ℕ} (cond b (Some (None, line)) None) ≡ b
    go true = refl
    go false = refl
writes_is c w = refl

some_left : {X : Type 0} (xs : List X) → not (is_empty xs) ≡ true → 1 ≤ length xs
some_left [] h = absurd cc
some_left (x ∷ xs) h = omega arith

sents_step : (o : Opening) (past : List Entry) (by : ℕ) (w : What) → AtMost same_nat (each_of sent past) (each_of written past) → may_come o past by w ≡ true
    → AtMost same_nat (each_of sent (past ++ entry by w ∷ due_after o past (entry by w))) (each_of written (past ++ entry by w ∷ due_after o past (entry by w)))
sents_step o past by (Sent child) h may =
    let sends_many = named_count same_nat sent (sends child) child (sends_is child) past in
    let counted = length-filter (λ (e : Entry). sends child e.what) past in
    let writes_many = named_length same_nat written (writes child) child (writes_is child) past in
    let left = some_left (unsent past child) may in
    let dropped = length-drop (length (filter (λ (e : Entry). sends child e.what) past)) (each_of (writes child) past) in
    let room : many same_nat child (each_of sent past) + 1 ≤ many same_nat child (each_of written past) = omega (arith, sends_many, counted, writes_many, left, dropped) in
    rw (each_of-append sent past (entry by (Sent child) ∷ []), each_of-append written past (entry by (Sent child) ∷ []))
    (more_one same_nat nat_is_same (each_of sent past) (each_of written past) [] child h room)
sents_step o past by w h may =
    grow_none same_nat sent written past (entry by w ∷ due_after o past (entry by w)) (due_names sent (λ c j v. refl) (λ c why. refl) (λ c j l. refl) o past by w) h

-- ---- verdicts

settles_is : (p : Pair) (w : What) → settles p.0 p.1 w ≡ holds same_pair p (settled w)
settles_is p (Settled child job verdict) = refl
settles_is p w = refl

-- the jobs of child
abbrev pairs : ℕ → List ℕ → List Pair
pairs child ks = map (λ k. (child, k)) ks

verdicts_settle : (by child : ℕ) (v : Verdict) (ks : List ℕ) → each_of settled (settled_all by child v ks) ≡ pairs child ks
verdicts_settle by child v [] = refl
verdicts_settle by child v (k ∷ ks) = ap (λ (xs : List Pair). (child, k) ∷ xs) (verdicts_settle by child v ks)

pairs_other : (child : ℕ) (p : Pair) (ks : List ℕ) → (child == p.0) ≡ false → many same_pair p (pairs child ks) ≡ 0
pairs_other child p [] e = refl
pairs_other child p (k ∷ ks) e =
    let a = many-cons same_pair p (child, k) (pairs child ks) in
    let b : one (child == p.0 && k == p.1) ≡ 0 = ap (λ (x : Bool). one (x && k == p.1)) e in
    let r = pairs_other child p ks e in
    omega (arith, a, b, r)

pairs_same : (child : ℕ) (p : Pair) (ks : List ℕ) → (child == p.0) ≡ true → many same_pair p (pairs child ks) ≡ many same_nat p.1 ks
pairs_same child p [] e = refl
pairs_same child p (k ∷ ks) e =
    let a = many-cons same_pair p (child, k) (pairs child ks) in
    let b : one (child == p.0 && k == p.1) ≡ one (k == p.1) = ap (λ (x : Bool). one (x && k == p.1)) e in
    let c = many-cons same_nat p.1 k ks in
    let r = pairs_same child p ks e in
    omega (arith, a, b, c, r)

asked_many : (p : Pair) (past : List Entry) → many same_pair p (each_of asked past) ≡ many same_nat p.1 (asked_jobs past p.0)
asked_many p [] = refl
asked_many p (e ∷ past) = step e.what (asked_many p past)
  where
    step : (w : What) → many same_pair p (each_of asked past) ≡ many same_nat p.1 (asked_jobs past p.0)
        → many same_pair p (cons_option (asked w) (each_of asked past)) ≡ many same_nat p.1 (cons_option (asks p.0 w) (asked_jobs past p.0))
    step (Ask child job task line) r = go (child == p.0) refl
      where
        a : many same_pair p ((child, job) ∷ each_of asked past) ≡ one (child == p.0 && job == p.1) + many same_pair p (each_of asked past)
        a = many-cons same_pair p (child, job) (each_of asked past)

        go : (b : Bool) → (child == p.0) ≡ b
            → many same_pair p ((child, job) ∷ each_of asked past) ≡ many same_nat p.1 (cons_option (cond b (Some job) None) (asked_jobs past p.0))
        go true e =
            let b : one (child == p.0 && job == p.1) ≡ one (job == p.1) = ap (λ (x : Bool). one (x && job == p.1)) e in
            let c = many-cons same_nat p.1 job (asked_jobs past p.0) in
            omega (arith, a, b, c, r)
        go false e =
            let b : one (child == p.0 && job == p.1) ≡ 0 = ap (λ (x : Bool). one (x && job == p.1)) e in
            omega (arith, a, b, r)
    step w r = r

abbrev Verdicts : List Entry → Type 0
Verdicts past = AtMost same_pair (each_of settled past) (each_of asked past)

-- verdicts of open jobs of child
verdicts_grow : (past group : List Entry) (child : ℕ) (ks : List ℕ) → each_of settled group ≡ pairs child ks
    → AtMost same_nat ks (open_jobs past child) → Verdicts past → Verdicts (past ++ group)
verdicts_grow past group child ks named among h p =
    let a = ap (many same_pair p) (each_of-append settled past group ∙ ap (λ (xs : List Pair). each_of settled past ++ xs) named)
    ∙ many-append same_pair p (each_of settled past) (pairs child ks) in
    let b = ap (many same_pair p) (each_of-append asked past group) ∙ many-append same_pair p (each_of asked past) (each_of asked group) in
    let before : many same_pair p (each_of settled past) ≤ many same_pair p (each_of asked past) = h p in
    go (child == p.0) refl a b before
  where
    go : (x : Bool) → (child == p.0) ≡ x
        → many same_pair p (each_of settled (past ++ group)) ≡ many same_pair p (each_of settled past) + many same_pair p (pairs child ks)
        → many same_pair p (each_of asked (past ++ group)) ≡ many same_pair p (each_of asked past) + many same_pair p (each_of asked group)
        → many same_pair p (each_of settled past) ≤ many same_pair p (each_of asked past)
        → many same_pair p (each_of settled (past ++ group)) ≤ many same_pair p (each_of asked (past ++ group))
    go false e a b before = let c = pairs_other child p ks e in omega (arith, a, b, c, before)
    go true e a b before = by_job (is_settled past p.0 p.1) refl
      where
        c : many same_pair p (pairs child ks) ≡ many same_nat p.1 ks
        c = pairs_same child p ks e

        d : many same_nat p.1 ks ≤ many same_nat p.1 (open_jobs past p.0)
        d = subst (λ (x : ℕ). many same_nat p.1 ks ≤ many same_nat p.1 (open_jobs past x)) (same_number child p.0 e) (among p.1)

        by_job : (s : Bool) → is_settled past p.0 p.1 ≡ s → many same_pair p (each_of settled (past ++ group)) ≤ many same_pair p (each_of asked (past ++ group))
        by_job true s =
            let shut : many same_nat p.1 (open_jobs past p.0) ≡ 0 = filter_drops (λ (j : ℕ). not (is_settled past p.0 j)) p.1 (asked_jobs past p.0) (ap not s) in
            omega (arith, a, b, c, d, shut, before)
        by_job false s =
            let none = named_none same_pair settled (settles p.0 p.1) p (settles_is p) past s in
            let opened : many same_nat p.1 (open_jobs past p.0) ≤ many same_nat p.1 (asked_jobs past p.0) = filter_at_most (λ (j : ℕ). not (is_settled past p.0 j)) p.1 (asked_jobs past p.0) in
            let all = asked_many p past in
            omega (arith, a, b, c, d, none, opened, all)

any_many : (j : ℕ) (ks : List ℕ) → list_any (λ k. k == j) ks ≡ true → 1 ≤ many same_nat j ks
any_many j [] h = absurd cc
any_many j (k ∷ ks) h = go (k == j) refl h (any_many j ks)
  where
    a : many same_nat j (k ∷ ks) ≡ one (k == j) + many same_nat j ks
    a = many-cons same_nat j k ks

    go : (b : Bool) → (k == j) ≡ b → (b || list_any (λ k. k == j) ks) ≡ true → (list_any (λ k. k == j) ks ≡ true → 1 ≤ many same_nat j ks) → 1 ≤ many same_nat j (k ∷ ks)
    go true e h r = let i : one (k == j) ≡ 1 = ap one e in omega (arith, a, i)
    go false e h r = let s : 1 ≤ many same_nat j ks = r h in omega (arith, a, s)

one_open : (past : List Entry) (child j : ℕ) → is_open past child j ≡ true → AtMost same_nat (j ∷ []) (open_jobs past child)
one_open past child j opened k = go (j == k) refl
  where
    single : many same_nat k (j ∷ []) ≡ one (j == k) + many same_nat k []
    single = many-cons same_nat k j []

    go : (b : Bool) → (j == k) ≡ b → many same_nat k (j ∷ []) ≤ many same_nat k (open_jobs past child)
    go true e =
        let i : one (j == k) ≡ 1 = ap one e in
        let here : 1 ≤ many same_nat k (open_jobs past child) =
        subst (λ (x : ℕ). 1 ≤ many same_nat x (open_jobs past child)) (same_number j k e) (any_many j (open_jobs past child) opened) in
        omega (arith, single, i, here)
    go false e = let i : one (j == k) ≡ 0 = ap one e in omega (arith, single, i)

verdicts_step : (o : Opening) (past : List Entry) (by : ℕ) (w : What) → Verdicts past → may_come o past by w ≡ true
    → Verdicts (past ++ entry by w ∷ due_after o past (entry by w))
verdicts_step o past by (End child why) h may =
    verdicts_grow past (entry by (End child why) ∷ due_after o past (entry by (End child why))) child (open_jobs past child)
    (verdicts_settle by child (Ended why) (open_jobs past child)) (λ k. omega arith) h
verdicts_step o past by (Mute child) h may = by_life (is_live past child)
  where
    by_life : (b : Bool)
        → Verdicts (past ++ entry by (Mute child) ∷ made_by by (cond b (map (λ (k : ℕ). Settled child k Unsent) (filter (is_unsent past child) (open_jobs past child))) []))
    by_life true =
        let ks = filter (is_unsent past child) (open_jobs past child) in
        verdicts_grow past (entry by (Mute child) ∷ settled_all by child Unsent ks) child ks (verdicts_settle by child Unsent ks)
        (λ k. filter_at_most (is_unsent past child) k (open_jobs past child)) h
    by_life false = grow_none same_pair settled asked past (entry by (Mute child) ∷ []) refl h
verdicts_step o past by (Got child line) h may = by_due (due_by_got o past child line) (got_due o past child line)
  where
    by_due : (due : List What) → GotDue past child due → Verdicts (past ++ entry by (Got child line) ∷ made_by by due)
    by_due due (inl e) =
        subst (λ (ws : List What). Verdicts (past ++ entry by (Got child line) ∷ made_by by ws)) (sym e) (grow_none same_pair settled asked past (entry by (Got child line) ∷ []) refl h)
    by_due due (inr (inl e)) =
        subst (λ (ws : List What). Verdicts (past ++ entry by (Got child line) ∷ made_by by ws)) (sym e.1)
        (verdicts_grow past (entry by (Got child line) ∷ entry by (End child e.0) ∷ settled_all by child (Ended e.0) (open_jobs past child)) child (open_jobs past child)
        (verdicts_settle by child (Ended e.0) (open_jobs past child)) (λ k. omega arith) h)
    by_due due (inr (inr (inl e))) =
        subst (λ (ws : List What). Verdicts (past ++ entry by (Got child line) ∷ made_by by ws)) (sym e.3)
        (verdicts_grow past (entry by (Got child line) ∷ entry by (Settled child e.0 e.1) ∷ []) child (e.0 ∷ []) refl (one_open past child e.0 e.2) h)
    by_due due (inr (inr (inr e))) =
        subst (λ (ws : List What). Verdicts (past ++ entry by (Got child line) ∷ made_by by ws)) (sym e.3)
        (grow_none same_pair settled asked past (entry by (Got child line) ∷ made_by by (replying past child e.0 e.1)) (replies_name settled (λ c j l. refl) past by child e.0 e.1) h)
verdicts_step o past by (Settled child job verdict) h may = absurd cc
verdicts_step o past by w h may = grow_none same_pair settled asked past (entry by w ∷ []) refl h

-- ---- the sum

abbrev size : {X : Type 0} → (What → Option X) → List Entry → ℕ
size f journal = length (each_of f journal)

-- each entry is counted by its kind
balance : (journal : List Entry) → length journal + 2 * size started journal + size asked journal + size written journal
    ≡ sum_by (λ e. room_for e.what) journal + size claimed journal + size closed journal + size ended journal + size muted journal + size sent journal + size settled journal
balance [] = refl
balance (e ∷ past) = step e.what (sum_by-cons (λ (d : Entry). room_for d.what) e past) (balance past)
  where
    total : ℕ
    total = sum_by (λ (d : Entry). room_for d.what) (e ∷ past)

    step : (w : What) → total ≡ room_for w + sum_by (λ d. room_for d.what) past
        → length past + 2 * size started past + size asked past + size written past
        ≡ sum_by (λ d. room_for d.what) past + size claimed past + size closed past + size ended past + size muted past + size sent past + size settled past
        → suc (length past) + 2 * length (cons_option (started w) (each_of started past)) + length (cons_option (asked w) (each_of asked past)) + length (cons_option (written w) (each_of written past))
        ≡ total + length (cons_option (claimed w) (each_of claimed past)) + length (cons_option (closed w) (each_of closed past)) + length (cons_option (ended w) (each_of ended past))
        + length (cons_option (muted w) (each_of muted past)) + length (cons_option (sent w) (each_of sent past)) + length (cons_option (settled w) (each_of settled past))
    step (Claim task child) s r = omega (arith, s, r)
    step (Start child slot offer) s r = omega (arith, s, r)
    step (NoStart slot) s r = omega (arith, s, r)
    step (Lead child job line) s r = omega (arith, s, r)
    step (Ask child job task line) s r = omega (arith, s, r)
    step (Put child job line) s r = omega (arith, s, r)
    step (Sent child) s r = omega (arith, s, r)
    step (Mute child) s r = omega (arith, s, r)
    step (Got child line) s r = omega (arith, s, r)
    step (End child why) s r = omega (arith, s, r)
    step (Settled child job verdict) s r = omega (arith, s, r)
    step (Lost child task) s r = omega (arith, s, r)
    step (Answered task answer) s r = omega (arith, s, r)
    step (Noted task chunk number) s r = omega (arith, s, r)
    step (Again task answer) s r = omega (arith, s, r)

record Inv (o : Opening) (past : List Entry) : Type 0 where
  renewed : Renewed o past
  claims : Claims o past
  closings : AtMost same_nat (each_of closed past) (each_of claimed past)
  ends : Ends past
  mutes : AtMost same_nat (each_of muted past) (each_of started past)
  sents : AtMost same_nat (each_of sent past) (each_of written past)
  verdicts : Verdicts past

invariant : (o : Opening) (journal : List Entry) → Legal o journal → Inv o journal
invariant o journal legal =
    Legal-induction o (Inv o)
    (record { renewed = record { few = λ t. omega arith }; claims = λ k. omega arith; closings = λ k. omega arith; ends = λ k. omega arith; mutes = λ k. omega arith; sents = λ k. omega arith; verdicts = λ k. omega arith })
    (λ p e l inv may. record {
      renewed = renewed_step o p e.by e.what inv.renewed may;
      claims = claims_step o p e.by e.what l inv.renewed inv.claims may;
      closings = closes_step o p e.by e.what l inv.closings may;
      ends = ends_step o p e.by e.what inv.ends may;
      mutes = mutes_step o p e.by e.what inv.mutes may;
      sents = sents_step o p e.by e.what inv.sents may;
      verdicts = verdicts_step o p e.by e.what inv.verdicts may;
    }) journal legal

-- no more claims than tasks may be run
pub claims_few : (o : Opening) (journal : List Entry) → Legal o journal → length (each_of claimed journal) ≤ (1 + o.again) * length o.tasks
claims_few o journal legal =
    let tasks = length-range_with_len 1 (length o.tasks) in
    let claims = AtMost-length same_nat nat_is_same (each_of claimed journal) (copies (1 + o.again) (numbers_of o)) (invariant o journal legal).claims in
    let times : length (copies (1 + o.again) (numbers_of o)) ≡ (1 + o.again) * length o.tasks = copies_long (1 + o.again) (numbers_of o) ∙ ap (λ (n : ℕ). (1 + o.again) * n) tasks in
    omega (arith, claims, times)

pub room_suffices : (o : Opening) (journal : List Entry) → Legal o journal → length journal ≤ room_of o journal
room_suffices o journal legal =
    let inv = invariant o journal legal in
    let tasks = length-range_with_len 1 (length o.tasks) in
    let claims = AtMost-length same_nat nat_is_same (each_of claimed journal) (copies (1 + o.again) (numbers_of o)) inv.claims in
    let times : length (copies (1 + o.again) (numbers_of o)) ≡ (1 + o.again) * length o.tasks = copies_long (1 + o.again) (numbers_of o) ∙ ap (λ (n : ℕ). (1 + o.again) * n) tasks in
    let closings = AtMost-length same_nat nat_is_same (each_of closed journal) (each_of claimed journal) inv.closings in
    let ends = AtMost-length same_nat nat_is_same (each_of ended journal) (each_of started journal) inv.ends in
    let mutes = AtMost-length same_nat nat_is_same (each_of muted journal) (each_of started journal) inv.mutes in
    let sents = AtMost-length same_nat nat_is_same (each_of sent journal) (each_of written journal) inv.sents in
    let verdicts = AtMost-length same_pair pair_is_same (each_of settled journal) (each_of asked journal) inv.verdicts in
    let all = balance journal in
    omega (arith, times, claims, closings, ends, mutes, sents, verdicts, all)

-- ---- what a group adds to the room

pub rooms-cons : (e : Entry) (past : List Entry) → room_for_all (e ∷ past) ≡ room_for e.what + room_for_all past
rooms-cons e past = sum_by-cons (λ (d : Entry). room_for d.what) e past

-- entries add to the room what they take
pub room_grows : (o : Opening) (past more : List Entry) → room_of o (past ++ more) ≡ room_of o past + room_for_all more
room_grows o past more =
    let all = sum_by-append (λ (d : Entry). room_for d.what) past more in
    omega (arith, all)

verdicts_room : (by child : ℕ) (v : Verdict) (ks : List ℕ) → room_for_all (settled_all by child v ks) ≡ 0
verdicts_room by child v [] = refl
verdicts_room by child v (k ∷ ks) =
    let first = rooms-cons (entry by (Settled child k v)) (settled_all by child v ks) in
    let rest = verdicts_room by child v ks in
    omega (arith, first, rest)

replies_room : (past : List Entry) (by child j : ℕ) (lines : List (List ℕ)) → room_for_all (made_by by (replying past child j lines)) ≡ 2 * count is_put (made_by by (replying past child j lines))
replies_room past by child j [] = refl
replies_room past by child j (l ∷ ls) =
    let first = rooms-cons (entry by (Put child j (on_wire past child j l))) (made_by by (replying past child j ls)) in
    let rest = replies_room past by child j ls in
    omega (arith, first, rest)

verdicts_put : (by child : ℕ) (v : Verdict) (ks : List ℕ) → count is_put (settled_all by child v ks) ≡ 0
verdicts_put by child v [] = refl
verdicts_put by child v (k ∷ ks) = verdicts_put by child v ks

verdicts_take : (by child : ℕ) (v : Verdict) (ks : List ℕ) → room_for_all (settled_all by child v ks) ≡ 2 * count is_put (settled_all by child v ks)
verdicts_take by child v ks =
    let a = verdicts_room by child v ks in
    let b = verdicts_put by child v ks in
    omega (arith, a, b)

due_takes : (o : Opening) (past : List Entry) (by : ℕ) (w : What) → room_for_all (due_after o past (entry by w)) ≡ 2 * count is_put (due_after o past (entry by w))
due_takes o past by (End child why) = verdicts_take by child (Ended why) (open_jobs past child)
due_takes o past by (Mute child) = by_life (is_live past child)
  where
    by_life : (b : Bool) → room_for_all (made_by by (cond b (map (λ (k : ℕ). Settled child k Unsent) (filter (is_unsent past child) (open_jobs past child))) []))
        ≡ 2 * count is_put (made_by by (cond b (map (λ (k : ℕ). Settled child k Unsent) (filter (is_unsent past child) (open_jobs past child))) []))
    by_life true = verdicts_take by child Unsent (filter (is_unsent past child) (open_jobs past child))
    by_life false = refl
due_takes o past by (Got child line) = by_due (due_by_got o past child line) (got_due o past child line)
  where
    by_due : (due : List What) → GotDue past child due → room_for_all (made_by by due) ≡ 2 * count is_put (made_by by due)
    by_due due (inl e) = rw e refl
    by_due due (inr (inl e)) =
        let first = rooms-cons (entry by (End child e.0)) (settled_all by child (Ended e.0) (open_jobs past child)) in
        let rest = verdicts_take by child (Ended e.0) (open_jobs past child) in
        rw e.1 (omega (arith, first, rest))
    by_due due (inr (inr (inl e))) = rw e.3 refl
    by_due due (inr (inr (inr e))) = rw e.3 (replies_room past by child e.0 e.1)
due_takes o past by w = refl

-- a group takes what its first entry does, and its replies
pub group_takes : (o : Opening) (past : List Entry) (e : Entry) → room_for_all (e ∷ due_after o past e) ≡ room_for e.what + 2 * count is_put (due_after o past e)
group_takes o past e =
    let first = rooms-cons e (due_after o past e) in
    let due = due_takes o past e.by e.what in
    omega (arith, first, due)

-- only after a line stands a reply
pub no_reply : (o : Opening) (past : List Entry) (by : ℕ) (w : What) → is_got w ≡ false → count is_put (due_after o past (entry by w)) ≡ 0
no_reply o past by (End child why) h = verdicts_put by child (Ended why) (open_jobs past child)
no_reply o past by (Mute child) h = by_life (is_live past child)
  where
    by_life : (b : Bool) → count is_put (made_by by (cond b (map (λ (k : ℕ). Settled child k Unsent) (filter (is_unsent past child) (open_jobs past child))) [])) ≡ 0
    by_life true = verdicts_put by child Unsent (filter (is_unsent past child) (open_jobs past child))
    by_life false = refl
no_reply o past by (Got child line) h = absurd cc
no_reply o past by w h = refl

-- ---- a whole group

none_asked : (xs : List Entry) → none_asks xs ≡ true → count is_ask xs ≡ 0
none_asked [] h = refl
none_asked (e ∷ xs) h =
    let s = both (not (is_ask e.what)) (none_asks xs) h in
    rw (not_true (is_ask e.what) s.0) (none_asked xs s.1)

-- what follows a first entry
module _ (o : Opening) (past : List Entry) where
  pub group_room : (e : Entry) (rest : List Entry) → Follows o past e rest → room_for_all (e ∷ rest) ≡ room_for e.what + 2 * count is_put rest + 3 * count is_ask rest
  group_room e rest f = by_kind e.by e.what f
    where
      by_kind : (by : ℕ) (w : What) → Follows o past (entry by w) rest → room_for_all (entry by w ∷ rest) ≡ room_for w + 2 * count is_put rest + 3 * count is_ask rest
      by_kind by (Lead child job name) f =
          one_ask o past (λ (xs : List Entry). room_for_all (entry by (Lead child job name) ∷ xs) ≡ 2 + 2 * count is_put xs + 3 * count is_ask xs) by child job name rest f (λ b c j t line. refl)
      by_kind by w f =
          let takes = group_takes o past (entry by w) in
          let none = none_asked (due_after o past (entry by w)) (due_none_asks o past (entry by w)) in
          subst (λ (xs : List Entry). room_for_all (entry by w ∷ xs) ≡ room_for w + 2 * count is_put xs + 3 * count is_ask xs) (sym f) (omega (arith, takes, none))

  pub group_no_reply : (e : Entry) (rest : List Entry) → Follows o past e rest → is_got e.what ≡ false → count is_put rest ≡ 0
  group_no_reply e rest f h = by_kind e.by e.what f h
    where
      by_kind : (by : ℕ) (w : What) → Follows o past (entry by w) rest → is_got w ≡ false → count is_put rest ≡ 0
      by_kind by (Lead child job name) f h = one_ask o past (λ (xs : List Entry). count is_put xs ≡ 0) by child job name rest f (λ b c j t line. refl)
      by_kind by w f h = subst (λ (xs : List Entry). count is_put xs ≡ 0) (sym f) (no_reply o past by w h)
