-- A task is answered once.
use Rattle.std.proofs.Common.{◌≡◌, ℕ, ◌+◌, ◌≤◌, List, [], ◌∷◌, ◌++◌, refl, sym, ap, subst, ◌∙◌, Bool, true, false, not, cond, length, length-append, arith}
use Rattle.std.specs.Prelude.{◌&&◌, ◌||◌, filter}
use Rattle.std.proofs.lemmas.Bool.{or_parts, eqb-true as same_number}
use Rattle.std.proofs.lemmas.List.Elements.{filter-append}
use Rattle.journal_model.specs.declared.entry.What.{What}
use Rattle.journal_model.specs.declared.entry.What.TheVariants.{Answer as Answered}
use Rattle.journal_model.specs.declared.entry.Entry.{Entry}
use Rattle.journal_model.specs.declared.opening.Opening.{Opening}
use Rattle.journal_model.specs.Journal.{any}
use Rattle.journal_model.specs.Due.{due_after}
use Rattle.journal_model.specs.Legality.{Legal, answers, count, holder, is_busy, is_claimed, is_claimed_by, is_run_again, may_come}
use Rattle.journal_model.specs.Makers.{is_of_task}
use Rattle.journal_model.proofs.Growing.{Near, Legal-induction}
use Rattle.journal_model.proofs.Holding.{closing_claims, held_busy, held_near}
use Rattle.journal_model.proofs.Looks.{entry}
use Rattle.journal_model.proofs.Testing.{by_either}
use Rattle.journal_model.proofs.Working.{count-append, due_untasked, count_none}

-- the entry stands among these
pub record Stands (xs : List Entry) (w : What) : Type 0 where
  pub front : List Entry
  pub by : ℕ
  pub back : List Entry
  pub is : xs ≡ front ++ entry by w ∷ back

alone_at : (front back : List Entry) (e : Entry) → length (front ++ e ∷ back) ≤ 1 → front ++ e ∷ back ≡ e ∷ []
alone_at [] [] e few = refl
alone_at [] (x ∷ back) e few = absurd (let bad : ⊥ = omega (arith, few) in bad)
alone_at (x ∷ front) back e few = absurd (let n = length-append front (e ∷ back) in let bad : ⊥ = omega (arith, few, n) in bad)

only_pick : (p : What → Bool) (xs : List Entry) (w : What) → count p xs ≤ 1 → (s : Stands xs w) → p w ≡ true → filter (λ (e : Entry). p e.what) xs ≡ entry s.by w ∷ []
only_pick p xs w few s is =
    let whole : filter (λ (e : Entry). p e.what) xs ≡ filter (λ (e : Entry). p e.what) s.front ++ entry s.by w ∷ filter (λ (e : Entry). p e.what) s.back =
    ap (filter (λ (e : Entry). p e.what)) s.is ∙ filter-append (λ (e : Entry). p e.what) s.front (entry s.by w ∷ s.back) ∙ (rw is refl) in
    whole ∙ alone_at (filter (λ (e : Entry). p e.what) s.front) (filter (λ (e : Entry). p e.what) s.back) (entry s.by w) (subst (λ (l : List Entry). length l ≤ 1) whole few)

abbrev first_what : What → List Entry → What
first_what w [] = w
first_what w (e ∷ xs) = e.what

-- where there is at most one such entry, two of them say the same
pub only_one : (p : What → Bool) (xs : List Entry) (v w : What) → count p xs ≤ 1 → Stands xs v → Stands xs w → p v ≡ true → p w ≡ true → v ≡ w
only_one p xs v w few a b x y = ap (first_what v) (sym (only_pick p xs v few a x) ∙ only_pick p xs w few b y)

-- ---- an answer is given once

-- what is of no entry of the task has no answer of it
unanswered_in : (t : ℕ) (xs : List Entry) → any (is_of_task t) xs ≡ false → any (answers t) xs ≡ false
unanswered_in t [] h = refl
unanswered_in t (e ∷ xs) h =
    let parts = or_parts (is_of_task t e.what) (any (is_of_task t) xs) h in
    let one : answers t e.what ≡ false = by_what e.what parts.0 in
    let rest : any (answers t) xs ≡ false = unanswered_in t xs parts.1 in
    rw (one, rest) refl
  where
    by_what : (w : What) → is_of_task t w ≡ false → answers t w ≡ false
    by_what (Answered task answer) k = k
    by_what w k = refl

count_first : (p : What → Bool) (e : Entry) (xs : List Entry) → count p xs ≡ 0 → count p (e ∷ xs) ≤ 1
count_first p e xs none = go (p e.what)
  where
    go : (b : Bool) → length (cond b (e ∷ filter (λ (x : Entry). p x.what) xs) (filter (λ (x : Entry). p x.what) xs)) ≤ 1
    go true = omega (arith, none)
    go false = omega (arith, none)

pub answered_once : (o : Opening) (journal : List Entry) → Legal o journal → (t : ℕ) → count (answers t) journal ≤ 1
answered_once o journal l =
    Legal-induction o (λ past. (t : ℕ) → count (answers t) past ≤ 1) (λ t. omega arith) (λ past e near before may. step past e.by e.what near before may) journal l
  where
    step : (past : List Entry) (by : ℕ) (w : What) → Near o past → ((t : ℕ) → count (answers t) past ≤ 1) → may_come o past by w ≡ true
        → (t : ℕ) → count (answers t) (past ++ entry by w ∷ due_after o past (entry by w)) ≤ 1
    step past by w near before may t = by_either (answers t w) given ungiven
      where
        due : List Entry
        due = due_after o past (entry by w)

        more : List Entry
        more = entry by w ∷ due

        none : any (answers t) due ≡ false
        none = unanswered_in t due (due_untasked o past by t w)

        ungiven : answers t w ≡ false → count (answers t) (past ++ more) ≤ 1
        ungiven f =
            let nothing : count (answers t) more ≡ 0 = count_none (answers t) more (rw (f, none) refl) in
            omega (arith, count-append (answers t) past more, nothing, before t)

        unanswered : (a b : Bool) → (a && not b) ≡ true → b ≡ false
        unanswered true false h = refl
        unanswered true true h = absurd cc
        unanswered false b h = absurd cc

        fresh : (v : What) → answers t v ≡ true → may_come o past by v ≡ true → any (answers t) past ≡ false
        fresh (Answered task answer) is m =
            let held : is_claimed_by past by task ≡ true = closing_claims past by task (not (is_run_again o past task answer)) m in
            let busy : is_busy past t ≡ true = subst (λ (x : ℕ). is_busy past x ≡ true) (same_number task t is) (held_busy by (holder past task) held) in
            unanswered (is_claimed past t) (any (answers t) past) (sym (held_near o past near t) ∙ busy)
        fresh v is m = absurd cc

        given : answers t w ≡ true → count (answers t) (past ++ more) ≤ 1
        given is =
            let nothing : count (answers t) past ≡ 0 = count_none (answers t) past (fresh w is may) in
            omega (arith, count-append (answers t) past more, nothing, count_first (answers t) (entry by w) due (count_none (answers t) due none))
