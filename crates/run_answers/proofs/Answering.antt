-- How the places of the tasks take up the answers of entries.
use Rattle.std.proofs.Common.{◌≡◌, ◌≢◌, ℕ, ◌+◌, ◌-◌, ◌<◌, ◌≤◌, List, [], ◌∷◌, ◌++◌, length, get_or, set, take, replicate, refl, sym, ap, subst, ◌∙◌, arith, Bool, true, false, cond, Some, None, Option, length-set}
use Rattle.std.specs.Prelude.{◌==◌, map, is_some, slice_get}
use Rattle.std.specs.List.{range_with_len, cons_option}
use Rattle.std.specs.Option.{option_or}
use Rattle.std.proofs.lemmas.Bool.Decides.{nat_tests}
use Rattle.std.proofs.lemmas.List.{same_lists, get_or_default, get_or-set_same, get_or-set_other, get_or-replicate, length-replicate, take_more}
use Rattle.std.proofs.lemmas.List.FromFn.{get_or-map-range_with_len, length-map-range_with_len}
use Rattle.std.proofs.lemmas.Option.{slice_get_within, get_or_from_slice_get}
use Rattle.journal_model.specs.declared.answer.Answer.{Answer}
use Rattle.journal_model.specs.declared.entry.What.TheVariants.{Answer as Answered}
use Rattle.journal_model.specs.declared.entry.Entry.{Entry}
use Rattle.journal_model.specs.Journal.{first_of, each_of}
use Rattle.journal_model.proofs.Looks.{first_of-append, each_of-append, or_none}
use Rattle.journal_scan.specs.Shown.{what_shown, entry_shown}
use Rattle.journal_scan.specs.declared.entry.WhatRef.{WhatRef}
use Rattle.journal_scan.specs.declared.entry.WhatRef.TheVariants.{Answer as AnswerRef}
use Rattle.journal_scan.specs.declared.entry.EntryRef.{EntryRef}
use Rattle.run_answers.specs.Answers.{answer_for, answer_of}
use Rattle.run_answers.specs.Answering.{HoldsAnswers, TakesUp}
use Rattle.std.proofs.lemmas.Bool.{ne_eqb as differ}

-- ---- one entry more

first_of_one : {X : Type 0} (o : Option X) → first_of (cons_option o []) ≡ o
first_of_one None = refl
first_of_one (Some x) = refl

answer_more : (past : List Entry) (e : Entry) (t : ℕ) → answer_of (past ++ e ∷ []) t ≡ option_or (answer_of past t) (answer_for t e.what)
answer_more past e t =
    ap first_of (each_of-append (answer_for t) past (e ∷ []))
    ∙ first_of-append (each_of (answer_for t) past) (each_of (answer_for t) (e ∷ []))
    ∙ ap (option_or (answer_of past t)) (first_of_one (answer_for t e.what))

-- ---- the places

-- they are what stands at each of them
held : (count : ℕ) (past : List Entry) (places : List (Option Answer)) → length places ≡ count
    → ((k : ℕ) → k < count → get_or places k None ≡ answer_of past (k + 1)) → HoldsAnswers count past places
held count past places long each =
    same_lists places (map (answer_of past) (range_with_len 1 count)) (long ∙ sym (length-map-range_with_len (answer_of past) 1 count))
    (λ k d within. at_default k d within ∙ each k (subst (λ (n : ℕ). k < n) long within)
    ∙ sym (get_or-map-range_with_len (answer_of past) 1 count k (k + 1) d (subst (λ (n : ℕ). k < n) long within) (omega arith)))
  where
    at_default : (k : ℕ) (d : Option Answer) → k < length places → get_or places k d ≡ get_or places k None
    at_default k d within = get_or_default places k d None within

holds_at : (count : ℕ) (past : List Entry) (places : List (Option Answer)) → HoldsAnswers count past places
    → (k : ℕ) → k < count → get_or places k None ≡ answer_of past (k + 1)
holds_at count past places h k within =
    ap (λ (xs : List (Option Answer)). get_or xs k None) h ∙ get_or-map-range_with_len (answer_of past) 1 count k (k + 1) None within (omega arith)

holds_long : (count : ℕ) (past : List Entry) (places : List (Option Answer)) → HoldsAnswers count past places → length places ≡ count
holds_long count past places h = ap (λ (xs : List (Option Answer)). length xs) h ∙ length-map-range_with_len (answer_of past) 1 count

-- each place takes up what the entry answers its task, where it is empty
takes_up : (e : Entry) (old new : List (Option Answer)) → length new ≡ length old
    → ((k : ℕ) → k < length old → get_or new k None ≡ option_or (get_or old k None) (answer_for (k + 1) e.what)) → TakesUp e old new
takes_up e old new long each count past h =
    let wide : length old ≡ count = holds_long count past old h in
    held count (past ++ e ∷ []) new (long ∙ wide)
    (λ k within. each k (subst (λ (n : ℕ). k < n) (sym wide) within)
    ∙ ap (λ (o : Option Answer). option_or o (answer_for (k + 1) e.what)) (holds_at count past old h k within)
    ∙ sym (answer_more past e (k + 1)))

-- an entry that answers none of these tasks
pub takes_none : (e : Entry) (places : List (Option Answer)) → ((k : ℕ) → k < length places → answer_for (k + 1) e.what ≡ None) → TakesUp e places places
takes_none e places quiet =
    takes_up e places places refl (λ k within. sym (or_none (get_or places k None) (answer_for (k + 1) e.what) (quiet k within)))

other_task : (task t : ℕ) (answer : Answer) → task ≢ t → answer_for t (Answered task answer) ≡ None
other_task task t answer ne = ap (λ (b : Bool). cond {A = Option Answer} b (Some answer) None) (differ task t ne)

same_task : (task t : ℕ) (answer : Answer) → task ≡ t → answer_for t (Answered task answer) ≡ Some answer
same_task task t answer e = ap (λ (b : Bool). cond {A = Option Answer} b (Some answer) None) (let yes : (task == t) ≡ true = grind (arith, nat_tests) in yes)

-- the task has no place
pub takes_outside : (by task : ℕ) (answer : Answer) (places : List (Option Answer)) → ((k : ℕ) → k < length places → task ≢ k + 1)
    → TakesUp (record { by = by; what = Answered task answer }) places places
takes_outside by task answer places out =
    takes_none (record { by = by; what = Answered task answer }) places (λ k within. other_task task (k + 1) answer (out k within))

or_held : (o p : Option Answer) → is_some o ≡ true → o ≡ option_or o p
or_held None p h = absurd cc
or_held (Some x) p h = refl

-- the task has been answered before
pub takes_again : (by task : ℕ) (answer : Answer) (places : List (Option Answer)) → 0 < task → task ≤ length places
    → is_some (get_or places (task - 1) None) ≡ true → TakesUp (record { by = by; what = Answered task answer }) places places
takes_again by task answer places some within there =
    takes_up (record { by = by; what = Answered task answer }) places places refl (λ k in_range. go k (task == k + 1) refl)
  where
    go : (k : ℕ) (b : Bool) → (task == k + 1) ≡ b → get_or places k None ≡ option_or (get_or places k None) (cond {A = Option Answer} (task == k + 1) (Some answer) None)
    go k true e =
        let at : task - 1 ≡ k = grind (arith, nat_tests) in
        or_held (get_or places k None) (cond {A = Option Answer} (task == k + 1) (Some answer) None) (subst (λ (i : ℕ). is_some (get_or places i None) ≡ true) at there)
    go k false e = sym (or_none (get_or places k None) (cond {A = Option Answer} (task == k + 1) (Some answer) None) (ap (λ (b : Bool). cond {A = Option Answer} b (Some answer) None) e))

or_empty : (o p : Option Answer) → is_some o ≡ false → option_or o p ≡ p
or_empty None p h = refl
or_empty (Some x) p h = absurd cc

-- the task is answered for the first time
pub takes_first : (by task : ℕ) (answer : Answer) (places : List (Option Answer)) → 0 < task → task ≤ length places
    → is_some (get_or places (task - 1) None) ≡ false → TakesUp (record { by = by; what = Answered task answer }) places (set places (task - 1) (Some answer))
takes_first by task answer places some within empty =
    takes_up (record { by = by; what = Answered task answer }) places (set places (task - 1) (Some answer)) (length-set places (task - 1) (Some answer)) (λ k in_range. go k in_range (task == k + 1) refl)
  where
    go : (k : ℕ) → k < length places → (b : Bool) → (task == k + 1) ≡ b
        → get_or (set places (task - 1) (Some answer)) k None ≡ option_or (get_or places k None) (answer_for (k + 1) (Answered task answer))
    go k in_range true e =
        let is : task ≡ k + 1 = grind (arith, nat_tests) in
        let at : task - 1 ≡ k = omega (arith, is) in
        let here : is_some (get_or places k None) ≡ false = subst (λ (i : ℕ). is_some (get_or places i None) ≡ false) at empty in
        ap (λ (i : ℕ). get_or (set places i (Some answer)) k None) at
        ∙ get_or-set_same places k (Some answer) None in_range
        ∙ sym (same_task task (k + 1) answer is)
        ∙ sym (or_empty (get_or places k None) (answer_for (k + 1) (Answered task answer)) here)
    go k in_range false e =
        let not_task : task ≢ k + 1 = grind (arith, nat_tests) in
        let ne : k ≢ task - 1 = omega (arith, not_task) in
        get_or-set_other places (task - 1) k (Some answer) None ne
        ∙ sym (or_none (get_or places k None) (answer_for (k + 1) (Answered task answer)) (other_task task (k + 1) answer not_task))

-- ---- entries that are lent

pub shown_answer : (e : EntryRef) (task : ℕ) (answer : Answer) → e.what ≡ AnswerRef task answer → entry_shown e ≡ record { by = e.by; what = Answered task answer }
shown_answer e task answer h = ap (λ (w : WhatRef). record { by = e.by; what = what_shown w }) h

quiet_what : (w : WhatRef) → ((task : ℕ) (answer : Answer) → w ≡ AnswerRef task answer → ⊥) → (t : ℕ) → answer_for t (what_shown w) ≡ None
quiet_what (AnswerRef task answer) h t = absurd (h task answer refl)
quiet_what w h t = refl

-- an entry that is no answer
pub takes_quiet : (e : EntryRef) (places : List (Option Answer)) → ((task : ℕ) (answer : Answer) → e.what ≡ AnswerRef task answer → ⊥) → TakesUp (entry_shown e) places places
takes_quiet e places h = takes_none (entry_shown e) places (λ k within. quiet_what e.what h (k + 1))

-- ---- the pass

pub holds_none : (count : ℕ) → HoldsAnswers count [] (replicate count None)
holds_none count = held count [] (replicate count None) (length-replicate count None) (λ k within. get_or-replicate count k None None within)

pub holds_more : (count at : ℕ) (entries : List Entry) (e : Entry) (old new : List (Option Answer)) → slice_get entries at ≡ Some e
    → TakesUp e old new → HoldsAnswers count (take at entries) old → HoldsAnswers count (take (at + 1) entries) new
holds_more count at entries e old new there takes h =
    subst (λ (past : List Entry). HoldsAnswers count past new) (sym (take_at entries at e there)) (takes count (take at entries) h)
  where
    take_at : (xs : List Entry) (i : ℕ) (x : Entry) → slice_get xs i ≡ Some x → take (i + 1) xs ≡ take i xs ++ x ∷ []
    take_at xs i x e = take_more xs i x (slice_get_within xs i x e) ∙ ap (λ (y : Entry). take i xs ++ y ∷ []) (get_or_from_slice_get xs i x x e)
