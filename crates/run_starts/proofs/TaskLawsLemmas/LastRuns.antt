-- In a legal journal a run whose child wasn't lost is the last of its task.
use Rattle.std.proofs.Common.{◌≡◌, ◌∙◌, ℕ, ◌<◌, ◌==◌, Bool, true, false, not, List, [], ◌∷◌, ◌++◌, refl, sym, ap, subst, append_assoc}
use Rattle.std.specs.Prelude.{◌&&◌, ◌||◌, nat_lt, fold}
use Rattle.std.specs.List.{list_all}
use Rattle.std.proofs.lemmas.Bool.{and_parts, or_parts, eq-eqb}
use Rattle.std.proofs.lemmas.List.{append-nil}
use Rattle.journal_model.specs.declared.entry.What.{What}
use Rattle.journal_model.specs.declared.entry.What.TheVariants.{Claim, Answer as Answered, Again}
use Rattle.journal_model.specs.declared.entry.Entry.{Entry}
use Rattle.journal_model.specs.declared.opening.Opening.{Opening}
use Rattle.journal_model.specs.Due.{due_after}
use Rattle.journal_model.specs.Journal.{any}
use Rattle.journal_model.specs.Legality.{Legal, may_come, claims, renews, answers, is_claimed, is_claimed_by, is_answered, claimed_after, claimed_on, count, has_open_job, holder, is_held_over_child, is_of_lost_child, is_run_again}
use Rattle.journal_model.specs.Makers.{is_of_task}
use Rattle.journal_model.proofs.Growing.{Legal-induction}
use Rattle.journal_model.proofs.Holding.{claimed_append}
use Rattle.journal_model.proofs.Looks.{entry, any-append}
use Rattle.journal_model.proofs.Working.{due_untasked}
use Rattle.task_model.specs.Askings.{bounds_run, closing}
use Rattle.run_starts.specs.TaskLaws.Retrieval.{AnsweredIsLast}
use Rattle.run_starts.proofs.TaskLawsLemmas.WithinRuns.{all_free, all_held, answered_so, are_free, are_held, asks_of, claimed_on_still}
use Rattle.ann_key.proofs.Booleans.{false_is_true as apart}

-- ---- an Again of a task says that its child was lost

abbrev is_lost_again : ℕ → What → Bool
is_lost_again u (Again task answer) = not (task == u) || is_of_lost_child answer
is_lost_again u w = true

abbrev are_lost : ℕ → List Entry → Bool
are_lost u entries = list_all (λ (e : Entry). is_lost_again u e.what) entries

lost-append : (u : ℕ) (xs ys : List Entry) → are_lost u xs ≡ true → are_lost u ys ≡ true → are_lost u (xs ++ ys) ≡ true
lost-append u [] ys h k = k
lost-append u (e ∷ xs) ys h k =
    let parts = and_parts (is_lost_again u e.what) (are_lost u xs) h in
    let one : is_lost_again u e.what ≡ true = parts.0 in
    let rest : are_lost u (xs ++ ys) ≡ true = lost-append u xs ys parts.1 k in
    rw (one, rest) refl

none_lost : (u : ℕ) (xs : List Entry) → any (is_of_task u) xs ≡ false → are_lost u xs ≡ true
none_lost u [] h = refl
none_lost u (e ∷ xs) h =
    let parts = or_parts (is_of_task u e.what) (any (is_of_task u) xs) h in
    let one : is_lost_again u e.what ≡ true = by_what e.what parts.0 in
    let rest : are_lost u xs ≡ true = none_lost u xs parts.1 in
    rw (one, rest) refl
  where
    by_what : (w : What) → is_of_task u w ≡ false → is_lost_again u w ≡ true
    by_what (Again task answer) k = let off : (task == u) ≡ false = k in rw off refl
    by_what w k = refl

all_lost : (o : Opening) (journal : List Entry) (u : ℕ) → Legal o journal → are_lost u journal ≡ true
all_lost o journal u legal = Legal-induction o (λ p. are_lost u p ≡ true) refl (λ past e l before may. step past e.by e.what before may) journal legal
  where
    step : (past : List Entry) (by : ℕ) (w : What) → are_lost u past ≡ true → may_come o past by w ≡ true → are_lost u (past ++ entry by w ∷ due_after o past (entry by w)) ≡ true
    step past by w before may =
        let own : is_lost_again u w ≡ true = by_what w may in
        let due : are_lost u (due_after o past (entry by w)) ≡ true = none_lost u (due_after o past (entry by w)) (due_untasked o past by u w) in
        lost-append u past (entry by w ∷ due_after o past (entry by w)) before (rw (own, due) refl)
      where
        by_what : (v : What) → may_come o past by v ≡ true → is_lost_again u v ≡ true
        by_what (Again task answer) m =
            let again = and_parts (is_claimed_by past by task && not (has_open_job past task)) (is_run_again o past task answer) m in
            let held = and_parts (is_of_lost_child answer && is_held_over_child (holder past task)) (nat_lt (count (renews task) past) o.again) again.1 in
            let lost : is_of_lost_child answer ≡ true = (and_parts (is_of_lost_child answer) (is_held_over_child (holder past task)) held.0).0 in
            either (task == u) (is_of_lost_child answer) lost
          where
            either : (a b : Bool) → b ≡ true → (not a || b) ≡ true
            either true b h = h
            either false b h = refl
        by_what v m = refl

lost_at : (u : ℕ) (xs : List Entry) (e : Entry) (ys : List Entry) → are_lost u (xs ++ e ∷ ys) ≡ true → is_lost_again u e.what ≡ true
lost_at u [] e ys h = (and_parts (is_lost_again u e.what) (are_lost u ys) h).0
lost_at u (x ∷ xs) e ys h = lost_at u xs e ys (and_parts (is_lost_again u x.what) (are_lost u (xs ++ e ∷ ys)) h).1

-- ---- after its answer a task isn't run again, and isn't claimed

answered_on : (u : ℕ) (xs ys : List Entry) → is_answered xs u ≡ true → is_answered (xs ++ ys) u ≡ true
answered_on u xs ys h = any-append (answers u) xs ys ∙ ap (λ (b : Bool). b || is_answered ys u) h

none_renewed : (u : ℕ) (past xs : List Entry) → are_held u past xs ≡ true → is_answered past u ≡ true → any (renews u) xs ≡ false
none_renewed u past [] h a = refl
none_renewed u past (e ∷ xs) h a =
    let parts = and_parts (not (asks_of u e.what) || (is_claimed past u && not (is_answered past u))) (are_held u (past ++ e ∷ []) xs) h in
    let here : (not (asks_of u e.what) || (is_claimed past u && not (is_answered past u))) ≡ true = parts.0 in
    let one : renews u e.what ≡ false = by_what e.what here in
    let rest : any (renews u) xs ≡ false = none_renewed u (past ++ e ∷ []) xs parts.1 (answered_on u past (e ∷ []) a) in
    rw (one, rest) refl
  where
    by_what : (w : What) → (not (asks_of u w) || (is_claimed past u && not (is_answered past u))) ≡ true → renews u w ≡ false
    by_what (Again task answer) k = by_test (task == u) (is_claimed past u) (let j : (not (task == u) || (is_claimed past u && not (is_answered past u))) ≡ true = k in rw a at j)
      where
        by_test : (b c : Bool) → (not b || (c && false)) ≡ true → b ≡ false
        by_test false c k = refl
        by_test true true k = apart k
        by_test true false k = apart k
    by_what w k = refl

none_claimed : (u : ℕ) (past xs : List Entry) → are_free u past xs ≡ true → is_claimed past u ≡ true → any (renews u) xs ≡ false → any (claims u) xs ≡ false
none_claimed u past [] h c n = refl
none_claimed u past (e ∷ xs) h c n =
    let parts = and_parts (not (claims u e.what) || not (is_claimed past u)) (are_free u (past ++ e ∷ []) xs) h in
    let here : (not (claims u e.what) || not (is_claimed past u)) ≡ true = parts.0 in
    let renewed = or_parts (renews u e.what) (any (renews u) xs) n in
    let one : claims u e.what ≡ false = off (claims u e.what) (rw c at here) in
    let still : is_claimed (past ++ e ∷ []) u ≡ true = claimed_append past (e ∷ []) u ∙ ap (λ (b : Bool). claimed_after u b e.what) c ∙ by_what e.what renewed.0 in
    let rest : any (claims u) xs ≡ false = none_claimed u (past ++ e ∷ []) xs parts.1 still renewed.1 in
    rw (one, rest) refl
  where
    off : (b : Bool) → (not b || false) ≡ true → b ≡ false
    off true k = apart k
    off false k = refl

    by_what : (w : What) → renews u w ≡ false → claimed_after u true w ≡ true
    by_what (Again task answer) k = let off : (task == u) ≡ false = k in rw off refl
    by_what (Claim task child) k = refl
    by_what w k = refl

-- ---- within the run

unrenewed : (u : ℕ) (xs : List Entry) → any (bounds_run u) xs ≡ false → count (renews u) xs ≡ 0
unrenewed u [] h = refl
unrenewed u (e ∷ xs) h =
    let parts = or_parts (bounds_run u e.what) (any (bounds_run u) xs) h in
    let one : renews u e.what ≡ false = by_what e.what parts.0 in
    rw one (unrenewed u xs parts.1)
  where
    by_what : (w : What) → bounds_run u w ≡ false → renews u w ≡ false
    by_what (Again task answer) k = k
    by_what w k = refl

pub answered_is_last : AnsweredIsLast
answered_is_last o journal u run pos legal kept = (unrun run.renewed refl, ap (λ (b : Bool). not b) none)
  where
    front : List Entry
    front = run.past ++ record { by = run.by; what = Claim u run.child } ∷ run.within

    unrun : (b : Bool) → run.renewed ≡ b → run.renewed ≡ false
    unrun false e = e
    unrun true e =
        let all : are_lost u (front ++ record { by = run.closed_by; what = closing run.renewed u run.answer } ∷ run.rest) ≡ true = subst (λ (j : List Entry). are_lost u j ≡ true) run.is (all_lost o journal u legal) in
        let at : is_lost_again u (closing run.renewed u run.answer) ≡ true = lost_at u front (record { by = run.closed_by; what = closing run.renewed u run.answer }) run.rest all in
        let again : is_lost_again u (Again u run.answer) ≡ true = subst (λ (b : Bool). is_lost_again u (closing b u run.answer) ≡ true) e at in
        let same : (u == u) ≡ true = eq-eqb u u refl in
        let lost : is_of_lost_child run.answer ≡ true = (let k : (not (u == u) || is_of_lost_child run.answer) ≡ true = again in rw same at k) in
        apart (sym kept ∙ lost)

    is : journal ≡ (front ++ record { by = run.closed_by; what = Answered u run.answer } ∷ []) ++ run.rest
    is =
        run.is
        ∙ ap (λ (b : Bool). front ++ record { by = run.closed_by; what = closing b u run.answer } ∷ run.rest) (unrun run.renewed refl)
        ∙ sym (append_assoc front (record { by = run.closed_by; what = Answered u run.answer } ∷ []) run.rest)

    held_rest : (p xs ys : List Entry) → are_held u p (xs ++ ys) ≡ true → are_held u (p ++ xs) ys ≡ true
    held_rest p [] ys h = subst (λ (q : List Entry). are_held u q ys ≡ true) (sym (append-nil p)) h
    held_rest p (e ∷ xs) ys h =
        subst (λ (q : List Entry). are_held u q ys ≡ true) (append_assoc p (e ∷ []) xs)
        (held_rest (p ++ e ∷ []) xs ys (and_parts (not (asks_of u e.what) || (is_claimed p u && not (is_answered p u))) (are_held u (p ++ e ∷ []) (xs ++ ys)) h).1)

    free_rest : (p xs ys : List Entry) → are_free u p (xs ++ ys) ≡ true → are_free u (p ++ xs) ys ≡ true
    free_rest p [] ys h = subst (λ (q : List Entry). are_free u q ys ≡ true) (sym (append-nil p)) h
    free_rest p (e ∷ xs) ys h =
        subst (λ (q : List Entry). are_free u q ys ≡ true) (append_assoc p (e ∷ []) xs)
        (free_rest (p ++ e ∷ []) xs ys (and_parts (not (claims u e.what) || not (is_claimed p u)) (are_free u (p ++ e ∷ []) (xs ++ ys)) h).1)

    till : List Entry
    till = front ++ record { by = run.closed_by; what = Answered u run.answer } ∷ []

    claimed : is_claimed till u ≡ true
    claimed =
        let same : (u == u) ≡ true = eq-eqb u u refl in
        let taken : (is_claimed run.past u || (u == u)) ≡ true = right (is_claimed run.past u) (u == u) same in
        claimed_append front (record { by = run.closed_by; what = Answered u run.answer } ∷ []) u
        ∙ claimed_append run.past (record { by = run.by; what = Claim u run.child } ∷ run.within) u
        ∙ ap (λ (b : Bool). fold (claimed_on u) b run.within) taken
        ∙ claimed_on_still u run.within (unrenewed u run.within run.one)
      where
        right : (a b : Bool) → b ≡ true → (a || b) ≡ true
        right true b h = refl
        right false b h = h

    none : any (claims u) run.rest ≡ false
    none =
        let held : are_held u till run.rest ≡ true = held_rest [] till run.rest (subst (λ (j : List Entry). are_held u [] j ≡ true) is (all_held o journal u pos legal)) in
        let free : are_free u till run.rest ≡ true = free_rest [] till run.rest (subst (λ (j : List Entry). are_free u [] j ≡ true) is (all_free o journal u pos legal)) in
        none_claimed u till run.rest free claimed (none_renewed u till run.rest held (answered_so u run.closed_by front run.answer))
