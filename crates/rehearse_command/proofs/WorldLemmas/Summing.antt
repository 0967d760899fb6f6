-- How the tasks that got their content are counted.
use Rattle.std.proofs.Common.{ℕ, ◌≡◌, ◌+◌, ◌<◌, ◌≤◌, Bool, true, false, List, [], ◌∷◌, length, take, get_or, Option, cond, refl, sym, ap, ◌∙◌, arith}
use Rattle.std.specs.Prelude.{map, filter, nat_lt}
use Rattle.std.specs.List.{range_with_len}
use Rattle.std.proofs.lemmas.List.{take_all}
use Rattle.std.proofs.lemmas.List.Filters.{length-filter_more}
use Rattle.std.proofs.lemmas.List.FromFn.{get_or-map-range_with_len, get_or-range_with_len, length-map-range_with_len, length-range_with_len}
use Rattle.std.proofs.lemmas.Bool.Decides.{nat_tests}
use Rattle.journal_model.specs.declared.answer.Answer.{Answer}
use Rattle.journal_model.specs.declared.entry.Entry.{Entry}
use Rattle.journal_model.specs.declared.opening.Opening.{Opening}
use Rattle.journal_model.specs.Legality.{numbers_of}
use Rattle.run_answers.specs.Answers.{answer_of}

-- one task more
pub sum_more : (p : ℕ → Bool) (o : Opening) (n : ℕ) (b : Bool) → n < length o.tasks → b ≡ p (n + 1)
    → length (filter p (take (n + 1) (numbers_of o))) ≡ length (filter p (take n (numbers_of o))) + cond {A = ℕ} b 1 0
sum_more p o n b within e =
    let long : length (numbers_of o) ≡ length o.tasks = length-range_with_len 1 (length o.tasks) in
    let next : 1 + n ≡ n + 1 = omega arith in
    let number : get_or (numbers_of o) n 0 ≡ n + 1 = get_or-range_with_len 1 (length o.tasks) n 0 within ∙ next in
    length-filter_more p (numbers_of o) n 0 (omega (arith, within, long))
    ∙ ap (λ (k : ℕ). length (filter p (take n (numbers_of o))) + cond {A = ℕ} (p k) 1 0) number
    ∙ ap (λ (x : Bool). length (filter p (take n (numbers_of o))) + cond {A = ℕ} x 1 0) (sym e)

-- and all of them
pub sum_all : (p : ℕ → Bool) (o : Opening) (n : ℕ) → length o.tasks ≤ n → length (filter p (take n (numbers_of o))) ≡ length (filter p (numbers_of o))
sum_all p o n all =
    let long : length (numbers_of o) ≡ length o.tasks = length-range_with_len 1 (length o.tasks) in
    ap (λ (ts : List ℕ). length (filter p ts)) (take_all n (numbers_of o) (omega (arith, all, long)))

-- each place has the answer of its task
pub answer_there : (o : Opening) (journal : List Entry) (answers : List (Option Answer)) (n : ℕ) (a : Option Answer)
    → answers ≡ map (answer_of journal) (numbers_of o) → a ≡ get_or answers n a → n < length o.tasks → a ≡ answer_of journal (n + 1)
answer_there o journal answers n a e there within =
    there ∙ ap (λ (xs : List (Option Answer)). get_or xs n a) e
    ∙ get_or-map-range_with_len (answer_of journal) 1 (length o.tasks) n (n + 1) a within (omega arith)

-- there is a place for each task
pub no_gap : (o : Opening) (journal : List Entry) (answers : List (Option Answer)) (n : ℕ)
    → answers ≡ map (answer_of journal) (numbers_of o) → nat_lt n (length answers) ≡ false → n < length o.tasks → ⊥
no_gap o journal answers n e none within =
    let long : length answers ≡ length o.tasks =
    ap (λ (xs : List (Option Answer)). length xs) e ∙ length-map-range_with_len (answer_of journal) 1 (length o.tasks) in
    let yes : nat_lt n (length answers) ≡ true = grind (arith, nat_tests) in
    let bad : true ≡ false = sym yes ∙ none in
    cc
