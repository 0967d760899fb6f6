-- The answers of the tasks that have one.
use Rattle.std.proofs.Common.{◌≡◌, ◌∙◌, ◌+◌, ◌<◌, ℕ, List, [], ◌∷◌, ◌++◌, length, take, get_or, Option, Some, None, refl, sym, ap}
use Rattle.std.specs.Prelude.{map, filter_map}
use Rattle.std.specs.List.{cons_option}
use Rattle.std.proofs.lemmas.List.{take_more}
use Rattle.std.proofs.lemmas.List.Elements.{filter_map-append}
use Rattle.run_answers.specs.Answering.{held_by}
use Rattle.journal_model.specs.declared.answer.Answer.{Answer}
use Rattle.journal_model.specs.declared.entry.Entry.{Entry}
use Rattle.journal_model.specs.declared.opening.Opening.{Opening}
use Rattle.journal_model.specs.Legality.{numbers_of}
use Rattle.run_answers.specs.Answers.{answer_of, given}

-- one place more
pub some_more : (places : List (Option Answer)) (at : ℕ) (place : Option Answer) → at < length places → place ≡ get_or places at place
    → filter_map (λ (o : Option Answer). o) (take (at + 1) places) ≡ filter_map (λ (o : Option Answer). o) (take at places) ++ held_by place
some_more places at place within is =
    ap (filter_map (λ (o : Option Answer). o)) (take_more places at place within)
    ∙ filter_map-append (λ (o : Option Answer). o) (take at places) (get_or places at place ∷ [])
    ∙ ap (λ (o : Option Answer). filter_map (λ (p : Option Answer). p) (take at places) ++ filter_map (λ (p : Option Answer). p) (o ∷ [])) (sym is)
    ∙ ap (λ (xs : List Answer). filter_map (λ (p : Option Answer). p) (take at places) ++ xs) (one place)
  where
    one : (o : Option Answer) → filter_map (λ (p : Option Answer). p) (o ∷ []) ≡ held_by o
    one None = refl
    one (Some answer) = refl

some_mapped : (f : ℕ → Option Answer) (ts : List ℕ) → filter_map (λ (o : Option Answer). o) (map f ts) ≡ filter_map f ts
some_mapped f [] = refl
some_mapped f (t ∷ ts) = ap (cons_option (f t)) (some_mapped f ts)

-- they are what the places hold
pub given_of : (o : Opening) (journal : List Entry) (places : List (Option Answer)) → places ≡ map (answer_of journal) (numbers_of o)
    → filter_map (λ (p : Option Answer). p) places ≡ given o journal
given_of o journal places e =
    ap (λ (ps : List (Option Answer)). filter_map (λ (p : Option Answer). p) ps) e ∙ some_mapped (answer_of journal) (numbers_of o)
