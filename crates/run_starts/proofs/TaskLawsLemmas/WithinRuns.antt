-- In a legal journal the requests of a turn of a task were asked within its run.
use Rattle.std.proofs.Common.{◌≡◌, ◌∙◌, ◌⊎◌, inl, inr, ℕ, ◌+◌, ◌<◌, ◌≤◌, ◌==◌, Bool, true, false, not, List, [], ◌∷◌, ◌++◌, length, take, drop, reverse, refl, sym, ap, subst, arith, append_assoc}
use Rattle.std.specs.Prelude.{◌&&◌, ◌||◌, cond, Option, Some, None, option_map, filter, find, fold}
use Rattle.std.specs.List.{cons_option}
use Rattle.std.proofs.lemmas.Bool.{and_parts, or_parts, eqb-true, eq-eqb}
use Rattle.std.proofs.lemmas.List.{append-nil, take-append-drop, reverse-append}
use Rattle.annex_model.specs.Messages.{HostMessage, host_reading}
use Rattle.journal_model.specs.declared.answer.Answer.{Answer}
use Rattle.journal_model.specs.declared.entry.What.{What}
use Rattle.journal_model.specs.declared.entry.What.TheVariants.{Claim, Ask, Answer as Answered, Again}
use Rattle.journal_model.specs.declared.entry.Entry.{Entry}
use Rattle.journal_model.specs.declared.opening.Opening.{Opening}
use Rattle.journal_model.specs.Journal.{any, addressed}
use Rattle.journal_model.specs.Due.{due_after}
use Rattle.journal_model.specs.Makers.{is_of_task}
use Rattle.journal_model.specs.Legality.{Legal, may_come, claims, renews, answers, is_claimed, is_claimed_by, is_answered, claimed_after, claimed_on, count, may_work, holder, turn_of_task}
use Rattle.journal_model.proofs.Growing.{Near, Legal-induction}
use Rattle.journal_model.proofs.Holding.{claimed_append, held_busy, held_near}
use Rattle.journal_model.proofs.Looks.{entry}
use Rattle.journal_model.proofs.Working.{ask_work, count-append, due_untasked, takes, unclaimed_in, worker, claims_of as claims_task}
use Rattle.task_model.specs.Askings.{TaskStretch, closing, past_claim}
use Rattle.run_starts.specs.TaskLaws.Changes.{Request, request_in, requests, requests_from}
use Rattle.run_starts.proofs.TaskLawsLemmas.Members.{IsIn, in_split}
use Rattle.ann_key.proofs.Booleans.{false_is_true as apart}

-- those that were asked within a run of task t, of any task
abbrev pub run_requests : {journal : List Entry} → {t : ℕ} → TaskStretch journal t → List Request
run_requests run = requests_from (past_claim run) run.within

-- ---- requests of lists put together

pub requests_from-append : (past xs ys : List Entry) → requests_from past (xs ++ ys) ≡ requests_from past xs ++ requests_from (past ++ xs) ys
requests_from-append past [] ys = ap (λ (p : List Entry). requests_from p ys) (sym (append-nil past))
requests_from-append past (e ∷ xs) ys =
    ap (cons_option (request_in past e.what)) (requests_from-append (past ++ e ∷ []) xs ys ∙ ap (λ (p : List Entry). requests_from (past ++ e ∷ []) xs ++ requests_from p ys) (append_assoc past (e ∷ []) xs))
    ∙ joined (request_in past e.what) (requests_from (past ++ e ∷ []) xs) (requests_from (past ++ e ∷ xs) ys)
  where
    joined : (o : Option Request) (front back : List Request) → cons_option o (front ++ back) ≡ cons_option o front ++ back
    joined None front back = refl
    joined (Some r) front back = refl

-- ---- each request of a task, and each Again of it, stands while it is claimed and not answered

abbrev pub asks_of : ℕ → What → Bool
asks_of u (Ask child job task line) = task == u
asks_of u (Again task answer) = task == u
asks_of u w = false

abbrev pub are_held : ℕ → List Entry → List Entry → Bool
are_held u past [] = true
are_held u past (e ∷ rest) = (not (asks_of u e.what) || (is_claimed past u && not (is_answered past u))) && are_held u (past ++ e ∷ []) rest

held-append : (u : ℕ) (past xs ys : List Entry) → are_held u past xs ≡ true → are_held u (past ++ xs) ys ≡ true → are_held u past (xs ++ ys) ≡ true
held-append u past [] ys h k = subst (λ (p : List Entry). are_held u p ys ≡ true) (append-nil past) k
held-append u past (e ∷ xs) ys h k =
    let parts = and_parts (not (asks_of u e.what) || (is_claimed past u && not (is_answered past u))) (are_held u (past ++ e ∷ []) xs) h in
    let one : (not (asks_of u e.what) || (is_claimed past u && not (is_answered past u))) ≡ true = parts.0 in
    let rest : are_held u (past ++ e ∷ []) (xs ++ ys) ≡ true = held-append u (past ++ e ∷ []) xs ys parts.1 (subst (λ (p : List Entry). are_held u p ys ≡ true) (sym (append_assoc past (e ∷ []) xs)) k) in
    rw (one, rest) refl

none_held : (u : ℕ) (past xs : List Entry) → any (is_of_task u) xs ≡ false → are_held u past xs ≡ true
none_held u past [] h = refl
none_held u past (e ∷ xs) h = by_what e.what h (none_held u (past ++ e ∷ []) xs)
  where
    off : (b c : Bool) → (b || c) ≡ false → (b ≡ false) × (c ≡ false)
    off true c h = apart (sym h)
    off false c h = (refl, h)

    by_what : (w : What) → (is_of_task u w || any (is_of_task u) xs) ≡ false → (any (is_of_task u) xs ≡ false → are_held u (past ++ e ∷ []) xs ≡ true)
        → ((not (asks_of u w) || (is_claimed past u && not (is_answered past u))) && are_held u (past ++ e ∷ []) xs) ≡ true
    by_what (Ask child job task line) h more =
        let o = off (task == u) (any (is_of_task u) xs) h in
        let none : (task == u) ≡ false = o.0 in
        let rest : are_held u (past ++ e ∷ []) xs ≡ true = more o.1 in
        rw (none, rest) refl
    by_what (Again task answer) h more =
        let o = off (task == u) (any (is_of_task u) xs) h in
        let none : (task == u) ≡ false = o.0 in
        let rest : are_held u (past ++ e ∷ []) xs ≡ true = more o.1 in
        rw (none, rest) refl
    by_what w h more = more (off (is_of_task u w) (any (is_of_task u) xs) h).1

pub all_held : (o : Opening) (journal : List Entry) (u : ℕ) → 0 < u → Legal o journal → are_held u [] journal ≡ true
all_held o journal u pos legal = Legal-induction o (λ p. are_held u [] p ≡ true) refl (λ past e l before may. step past e.by e.what l before may) journal legal
  where
    step : (past : List Entry) (by : ℕ) (w : What) → Near o past → are_held u [] past ≡ true → may_come o past by w ≡ true → are_held u [] (past ++ entry by w ∷ due_after o past (entry by w)) ≡ true
    step past by w l before may = held-append u [] past (entry by w ∷ due_after o past (entry by w)) before (by_what w may)
      where
        by_what : (v : What) → may_come o past by v ≡ true → ((not (asks_of u v) || (is_claimed past u && not (is_answered past u))) && are_held u (past ++ entry by w ∷ []) (due_after o past (entry by w))) ≡ true
        by_what v m = both (not (asks_of u v) || (is_claimed past u && not (is_answered past u))) (are_held u (past ++ entry by w ∷ []) (due_after o past (entry by w))) (own v m) (none_held u (past ++ entry by w ∷ []) (due_after o past (entry by w)) (due_untasked o past by u w))
          where
            both : (a b : Bool) → a ≡ true → b ≡ true → (a && b) ≡ true
            both a b e f = rw (e, f) refl

            own : (v : What) → may_come o past by v ≡ true → (not (asks_of u v) || (is_claimed past u && not (is_answered past u))) ≡ true
            own (Ask child job task line) m = by_test (task == u) refl
              where
                by_test : (b : Bool) → (task == u) ≡ b → (not b || (is_claimed past u && not (is_answered past u))) ≡ true
                by_test false e = refl
                by_test true e =
                    let is : task ≡ u = eqb-true task u e in
                    let work : may_work past by u child ≡ true = subst (λ (k : ℕ). may_work past by k child ≡ true) is (ask_work o past by child job task line m) in
                    sym (held_near o past l u) ∙ held_busy by (holder past u) (worker past by u child pos work)
            own (Again task answer) m = by_test (task == u) refl
              where
                by_taking : ((is_claimed past u ≡ false) × (false ≡ true)) ⊎ ((is_claimed_by past by u ≡ true) × (false ≡ false)) → (is_claimed past u && not (is_answered past u)) ≡ true
                by_taking (inl x) = apart x.1
                by_taking (inr x) = sym (held_near o past l u) ∙ held_busy by (holder past u) x.0

                by_test : (b : Bool) → (task == u) ≡ b → (not b || (is_claimed past u && not (is_answered past u))) ≡ true
                by_test false e = refl
                by_test true e = by_taking (takes o past by u (Again task answer) pos m e)
            own v m = refl

-- ---- a task is claimed where it isn't claimed

abbrev pub are_free : ℕ → List Entry → List Entry → Bool
are_free u past [] = true
are_free u past (e ∷ rest) = (not (claims u e.what) || not (is_claimed past u)) && are_free u (past ++ e ∷ []) rest

free-append : (u : ℕ) (past xs ys : List Entry) → are_free u past xs ≡ true → are_free u (past ++ xs) ys ≡ true → are_free u past (xs ++ ys) ≡ true
free-append u past [] ys h k = subst (λ (p : List Entry). are_free u p ys ≡ true) (append-nil past) k
free-append u past (e ∷ xs) ys h k =
    let parts = and_parts (not (claims u e.what) || not (is_claimed past u)) (are_free u (past ++ e ∷ []) xs) h in
    let one : (not (claims u e.what) || not (is_claimed past u)) ≡ true = parts.0 in
    let rest : are_free u (past ++ e ∷ []) (xs ++ ys) ≡ true = free-append u (past ++ e ∷ []) xs ys parts.1 (subst (λ (p : List Entry). are_free u p ys ≡ true) (sym (append_assoc past (e ∷ []) xs)) k) in
    rw (one, rest) refl

none_free : (u : ℕ) (past xs : List Entry) → any (claims u) xs ≡ false → are_free u past xs ≡ true
none_free u past [] h = refl
none_free u past (e ∷ xs) h =
    let parts = or_parts (claims u e.what) (any (claims u) xs) h in
    let one : claims u e.what ≡ false = parts.0 in
    let rest : are_free u (past ++ e ∷ []) xs ≡ true = none_free u (past ++ e ∷ []) xs parts.1 in
    rw (one, rest) refl

pub all_free : (o : Opening) (journal : List Entry) (u : ℕ) → 0 < u → Legal o journal → are_free u [] journal ≡ true
all_free o journal u pos legal = Legal-induction o (λ p. are_free u [] p ≡ true) refl (λ past e l before may. step past e.by e.what before may) journal legal
  where
    step : (past : List Entry) (by : ℕ) (w : What) → are_free u [] past ≡ true → may_come o past by w ≡ true → are_free u [] (past ++ entry by w ∷ due_after o past (entry by w)) ≡ true
    step past by w before may =
        let own : (not (claims u w) || not (is_claimed past u)) ≡ true = by_test (claims u w) refl in
        let due : are_free u (past ++ entry by w ∷ []) (due_after o past (entry by w)) ≡ true =
        none_free u (past ++ entry by w ∷ []) (due_after o past (entry by w)) (unclaimed_in u (due_after o past (entry by w)) (due_untasked o past by u w)) in
        free-append u [] past (entry by w ∷ due_after o past (entry by w)) before (rw (own, due) refl)
      where
        by_test : (b : Bool) → claims u w ≡ b → (not b || not (is_claimed past u)) ≡ true
        by_test false e = refl
        by_test true e = by_taking (takes o past by u w pos may (claims_task u w e))
          where
            by_taking : ((is_claimed past u ≡ false) × (claims u w ≡ true)) ⊎ ((is_claimed_by past by u ≡ true) × (claims u w ≡ false)) → not (is_claimed past u) ≡ true
            by_taking (inl x) = rw x.0 refl
            by_taking (inr x) = apart (sym x.1 ∙ e)

free_at : (u : ℕ) (past xs : List Entry) (e : Entry) (ys : List Entry) → are_free u past (xs ++ e ∷ ys) ≡ true → claims u e.what ≡ true → is_claimed (past ++ xs) u ≡ false
free_at u past [] e ys h c =
    let one = and_parts (not (claims u e.what) || not (is_claimed past u)) (are_free u (past ++ e ∷ []) ys) h in
    let free : not (is_claimed past u) ≡ true = (let k : (not (claims u e.what) || not (is_claimed past u)) ≡ true = one.0 in rw c at k) in
    ap (λ (p : List Entry). is_claimed p u) (append-nil past) ∙ off (is_claimed past u) free
  where
    off : (b : Bool) → not b ≡ true → b ≡ false
    off true h = apart h
    off false h = refl
free_at u past (x ∷ xs) e ys h c =
    let rest = and_parts (not (claims u x.what) || not (is_claimed past u)) (are_free u (past ++ x ∷ []) (xs ++ e ∷ ys)) h in
    ap (λ (p : List Entry). is_claimed p u) (sym (append_assoc past (x ∷ []) xs)) ∙ free_at u (past ++ x ∷ []) xs e ys rest.1 c

-- it is claimed on in the same turn
pub claimed_on_still : (u : ℕ) (xs : List Entry) → count (renews u) xs ≡ 0 → fold (claimed_on u) true xs ≡ true
claimed_on_still u [] none = refl
claimed_on_still u (e ∷ xs) none = by_what e.what none (claimed_on_still u xs)
  where
    by_what : (w : What) → length (cond (renews u w) (e ∷ filter (λ (x : Entry). renews u x.what) xs) (filter (λ (x : Entry). renews u x.what) xs)) ≡ 0
        → (count (renews u) xs ≡ 0 → fold (claimed_on u) true xs ≡ true) → fold (claimed_on u) (claimed_after u true w) xs ≡ true
    by_what (Claim task child) n more = more n
    by_what (Again task answer) n more = by_test (task == u) n
      where
        by_test : (b : Bool) → length (cond b (e ∷ filter (λ (x : Entry). renews u x.what) xs) (filter (λ (x : Entry). renews u x.what) xs)) ≡ 0 → fold (claimed_on u) (not b) xs ≡ true
        by_test true n = absurd (omega (arith, n))
        by_test false n = more n
    by_what w n more = more n

claimed_still : (u : ℕ) (past more : List Entry) → is_claimed past u ≡ true → turn_of_task (past ++ more) u ≡ turn_of_task past u → is_claimed (past ++ more) u ≡ true
claimed_still u past more h same =
    let none : count (renews u) more ≡ 0 = (let both = count-append (renews u) past more in omega (arith, same, both)) in
    claimed_append past more u ∙ ap (λ (b : Bool). fold (claimed_on u) b more) h ∙ claimed_on_still u more none

-- ---- a request of the task stands while it is claimed and not answered

unanswered_less : (u : ℕ) (xs ys : List Entry) → is_answered (xs ++ ys) u ≡ false → is_answered xs u ≡ false
unanswered_less u [] ys h = refl
unanswered_less u (e ∷ xs) ys h = by_test (answers u e.what) h (unanswered_less u xs ys)
  where
    by_test : (b : Bool) → (b || is_answered (xs ++ ys) u) ≡ false → (is_answered (xs ++ ys) u ≡ false → is_answered xs u ≡ false) → (b || is_answered xs u) ≡ false
    by_test true h more = apart (sym h)
    by_test false h more = more h

record Held (u : ℕ) (past entries : List Entry) (s : Request) : Type 0 where
  seen : List Entry
  rest : List Entry
  is : entries ≡ seen ++ rest
  claimed : is_claimed (past ++ seen) u ≡ true
  open_still : is_answered past u ≡ false
  turn : s.turn.turn ≡ turn_of_task (past ++ seen) u

held_at : (u : ℕ) (past entries : List Entry) (s : Request) → IsIn s (requests_from past entries) → s.turn.task ≡ u → are_held u past entries ≡ true → Held u past entries s
held_at u past [] s h t k = absurd h
held_at u past (e ∷ rest) s h t k =
    by_what e.what h (and_parts (not (asks_of u e.what) || (is_claimed past u && not (is_answered past u))) (are_held u (past ++ e ∷ []) rest) k).0
    (λ i. later (held_at u (past ++ e ∷ []) rest s i t (and_parts (not (asks_of u e.what) || (is_claimed past u && not (is_answered past u))) (are_held u (past ++ e ∷ []) rest) k).1))
  where
    later : Held u (past ++ e ∷ []) rest s → Held u past (e ∷ rest) s
    later x = record {
      seen = e ∷ x.seen;
      rest = x.rest;
      is = ap (λ (xs : List Entry). e ∷ xs) x.is;
      claimed = subst (λ (p : List Entry). is_claimed p u ≡ true) (append_assoc past (e ∷ []) x.seen) x.claimed;
      open_still = unanswered_less u past (e ∷ []) x.open_still;
      turn = x.turn ∙ ap (λ (p : List Entry). turn_of_task p u) (append_assoc past (e ∷ []) x.seen);
    }

    here : (is_claimed past u && not (is_answered past u)) ≡ true → s.turn.turn ≡ turn_of_task past u → Held u past (e ∷ rest) s
    here x turn = record {
      seen = [];
      rest = e ∷ rest;
      is = refl;
      claimed = ap (λ (p : List Entry). is_claimed p u) (append-nil past) ∙ (and_parts (is_claimed past u) (not (is_answered past u)) x).0;
      open_still = off (is_answered past u) (and_parts (is_claimed past u) (not (is_answered past u)) x).1;
      turn = turn ∙ ap (λ (p : List Entry). turn_of_task p u) (sym (append-nil past));
    }
      where
        off : (b : Bool) → not b ≡ true → b ≡ false
        off true h = apart h
        off false h = refl

    by_what : (w : What) → IsIn s (cons_option (request_in past w) (requests_from (past ++ e ∷ []) rest)) → (not (asks_of u w) || (is_claimed past u && not (is_answered past u))) ≡ true
        → (IsIn s (requests_from (past ++ e ∷ []) rest) → Held u past (e ∷ rest) s) → Held u past (e ∷ rest) s
    by_what (Ask child job task line) i x more = by_reading (host_reading (addressed past child line).1) i
      where
        by_reading : (o : Option HostMessage)
            → IsIn s (cons_option (option_map (λ q. record { at = length past; child = child; job = job; turn = record { task = task; turn = turn_of_task past task }; asks = q }) o) (requests_from (past ++ e ∷ []) rest))
            → Held u past (e ∷ rest) s
        by_reading None i = more i
        by_reading (Some q) (inr i) = more i
        by_reading (Some q) (inl is) =
            let of_task : task ≡ u = ap (λ (y : Request). y.turn.task) is ∙ t in
            let same : (task == u) ≡ true = eq-eqb task u of_task in
            let turn : turn_of_task past task ≡ s.turn.turn = ap (λ (y : Request). y.turn.turn) is in
            here (let y : (not (task == u) || (is_claimed past u && not (is_answered past u))) ≡ true = x in rw same at y) (sym turn ∙ ap (turn_of_task past) of_task)
    by_what w i x more = more i

-- ---- within the run

pub answered_so : (u by : ℕ) (xs : List Entry) (answer : Answer) → is_answered (xs ++ record { by = by; what = Answered u answer } ∷ []) u ≡ true
answered_so u by [] answer = let e : (u == u) ≡ true = eq-eqb u u refl in rw e refl
answered_so u by (x ∷ xs) answer = let h : is_answered (xs ++ record { by = by; what = Answered u answer } ∷ []) u ≡ true = answered_so u by xs answer in by_test (answers u x.what) h
  where
    by_test : (b : Bool) → is_answered (xs ++ record { by = by; what = Answered u answer } ∷ []) u ≡ true → (b || is_answered (xs ++ record { by = by; what = Answered u answer } ∷ []) u) ≡ true
    by_test true h = refl
    by_test false h = h

pub within_run : (o : Opening) (journal : List Entry) (u : ℕ) (run : TaskStretch journal u) (s : Request) → 0 < u → Legal o journal → IsIn s (requests journal) → s.turn.task ≡ u → s.turn.turn ≡ turn_of_task run.past u
    → IsIn s (run_requests run)
within_run o journal u run s pos legal i t turn = by_front (in_split s (requests_from [] front) (requests_from front tail) (subst (λ (xs : List Request). IsIn s xs) split i))
  where
    front : List Entry
    front = run.past ++ record { by = run.by; what = Claim u run.child } ∷ run.within

    tail : List Entry
    tail = record { by = run.closed_by; what = closing run.renewed u run.answer } ∷ run.rest

    split : requests journal ≡ requests_from [] front ++ requests_from front tail
    split = ap requests run.is ∙ requests_from-append [] front tail

    held : are_held u [] (front ++ tail) ≡ true
    held = subst (λ (j : List Entry). are_held u [] j ≡ true) run.is (all_held o journal u pos legal)

    held_front : (p xs ys : List Entry) → are_held u p (xs ++ ys) ≡ true → (are_held u p xs ≡ true) × (are_held u (p ++ xs) ys ≡ true)
    held_front p [] ys h = (refl, subst (λ (q : List Entry). are_held u q ys ≡ true) (sym (append-nil p)) h)
    held_front p (e ∷ xs) ys h =
        let parts = and_parts (not (asks_of u e.what) || (is_claimed p u && not (is_answered p u))) (are_held u (p ++ e ∷ []) (xs ++ ys)) h in
        let more = held_front (p ++ e ∷ []) xs ys parts.1 in
        let one : (not (asks_of u e.what) || (is_claimed p u && not (is_answered p u))) ≡ true = parts.0 in
        let rest : are_held u (p ++ e ∷ []) xs ≡ true = more.0 in
        (rw (one, rest) refl, subst (λ (q : List Entry). are_held u q ys ≡ true) (append_assoc p (e ∷ []) xs) more.1)

    -- the run's claim stands where the task isn't claimed
    free : is_claimed run.past u ≡ false
    free =
        let claim : Entry = record { by = run.by; what = Claim u run.child } in
        let all : are_free u [] (front ++ tail) ≡ true = subst (λ (j : List Entry). are_free u [] j ≡ true) run.is (all_free o journal u pos legal) in
        let parted : are_free u [] (run.past ++ claim ∷ (run.within ++ tail)) ≡ true = subst (λ (j : List Entry). are_free u [] j ≡ true) (append_assoc run.past (claim ∷ run.within) tail) all in
        free_at u [] run.past claim (run.within ++ tail) parted (eq-eqb u u refl)

    -- what was asked before in the same turn would have had it claimed till then
    not_before : IsIn s (requests_from [] run.past) → IsIn s (run_requests run)
    not_before k =
        let x : Held u [] run.past s = held_at u [] run.past s k t (held_front [] run.past (record { by = run.by; what = Claim u run.child } ∷ run.within) (held_front [] front tail held).0).0 in
        let same : turn_of_task (x.seen ++ x.rest) u ≡ turn_of_task x.seen u = ap (λ (p : List Entry). turn_of_task p u) (sym x.is) ∙ sym turn ∙ x.turn in
        let still : is_claimed run.past u ≡ true = ap (λ (p : List Entry). is_claimed p u) x.is ∙ claimed_still u x.seen x.rest x.claimed same in
        apart (sym free ∙ still)

    -- after an answer nothing is asked for the task, and after an Again it is in a later turn
    not_behind : (renewed : Bool) → run.renewed ≡ renewed → IsIn s (requests_from front tail) → IsIn s (run_requests run)
    not_behind renewed how k = by_closing renewed (subst (λ (b : Bool). Held u (front ++ record { by = run.closed_by; what = closing b u run.answer } ∷ []) run.rest s) how x)
      where
        x : Held u (front ++ record { by = run.closed_by; what = closing run.renewed u run.answer } ∷ []) run.rest s
        x =
            held_at u (front ++ record { by = run.closed_by; what = closing run.renewed u run.answer } ∷ []) run.rest s (in_rest k) t
            (held_front front (record { by = run.closed_by; what = closing run.renewed u run.answer } ∷ []) run.rest (held_front [] front tail held).1).1
          where
            in_rest : IsIn s (requests_from front tail) → IsIn s (requests_from (front ++ record { by = run.closed_by; what = closing run.renewed u run.answer } ∷ []) run.rest)
            in_rest k = subst (λ (o : Option Request). IsIn s (cons_option o (requests_from (front ++ record { by = run.closed_by; what = closing run.renewed u run.answer } ∷ []) run.rest))) (none run.renewed) k
              where
                none : (b : Bool) → request_in front (closing b u run.answer) ≡ None
                none true = refl
                none false = refl

        by_closing : (b : Bool) → Held u (front ++ record { by = run.closed_by; what = closing b u run.answer } ∷ []) run.rest s → IsIn s (run_requests run)
        by_closing false y = apart (sym y.open_still ∙ answered_so u run.closed_by front run.answer)
        by_closing true y =
            let again : Entry = record { by = run.closed_by; what = Again u run.answer } in
            let one : count (renews u) (again ∷ []) ≡ 1 = (let e : (u == u) ≡ true = eq-eqb u u refl in rw e refl) in
            let a = count-append (renews u) (front ++ again ∷ []) y.seen in
            let b = count-append (renews u) front (again ∷ []) in
            let c = count-append (renews u) run.past (record { by = run.by; what = Claim u run.child } ∷ run.within) in
            let d = y.turn in
            absurd (omega (arith, one, a, b, c, d, turn))

    by_front : IsIn s (requests_from [] front) ⊎ IsIn s (requests_from front tail) → IsIn s (run_requests run)
    by_front (inr k) = not_behind run.renewed refl k
    by_front (inl k) =
        by_place (in_split s (requests_from [] run.past) (run_requests run)
        (subst (λ (xs : List Request). IsIn s xs) (requests_from-append [] run.past (record { by = run.by; what = Claim u run.child } ∷ run.within)) k))
      where
        by_place : IsIn s (requests_from [] run.past) ⊎ IsIn s (run_requests run) → IsIn s (run_requests run)
        by_place (inl j) = not_before j
        by_place (inr j) = j

-- ---- what is found

pub in_reversed : {X : Type 0} (x : X) (xs : List X) → IsIn x (reverse xs) → IsIn x xs
in_reversed x [] h = h
in_reversed {X} x (y ∷ ys) h =
    by_place (in_reversed x ys) (in_split x (reverse ys) (reverse (y ∷ [])) (subst (λ (zs : List X). IsIn x zs) (reverse-append (y ∷ []) ys) h))
  where
    by_place : (IsIn x (reverse ys) → IsIn x ys) → IsIn x (reverse ys) ⊎ IsIn x (reverse (y ∷ [])) → IsIn x (y ∷ ys)
    by_place more (inl k) = inr (more k)
    by_place more (inr (inl e)) = inl e
    by_place more (inr (inr k)) = absurd k

pub found_in : {X : Type 0} (p : X → Bool) (xs : List X) (x : X) → find p xs ≡ Some x → IsIn x xs
found_in p [] x e = absurd (let k : None ≡ Some x = e in cc)
found_in {X} p (y ∷ ys) x e = by_test (p y) e (found_in p ys x)
  where
    by_test : (b : Bool) → cond b (Some y) (find p ys) ≡ Some x → (find p ys ≡ Some x → IsIn x ys) → IsIn x (y ∷ ys)
    by_test true e more = let k : Some y ≡ Some x = e in inl cc
    by_test false e more = inr (more e)

-- a request before a place is one of the journal's
pub in_front : (journal : List Entry) (place : ℕ) (s : Request) → IsIn s (requests (take place journal)) → IsIn s (requests journal)
in_front journal place s h =
    let split : requests journal ≡ requests (take place journal) ++ requests_from (take place journal) (drop place journal) =
    ap requests (sym (take-append-drop place journal)) ∙ requests_from-append [] (take place journal) (drop place journal) in
    subst (λ (xs : List Request). IsIn s xs) (sym split) (in_left s (requests (take place journal)) (requests_from (take place journal) (drop place journal)) h)
  where
    in_left : (x : Request) (xs ys : List Request) → IsIn x xs → IsIn x (xs ++ ys)
    in_left x [] ys h = absurd h
    in_left x (z ∷ xs) ys (inl e) = inl e
    in_left x (z ∷ xs) ys (inr h) = inr (in_left x xs ys h)
