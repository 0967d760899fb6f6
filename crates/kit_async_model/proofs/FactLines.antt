-- The lines of facts.
use Rattle.std.proofs.Common.{◌≡◌, ℕ, suc, ◌+◌, ◌<◌, ◌==◌, false, List, [], ◌∷◌, ◌++◌, length, take, get_or, refl, sym, ap, ◌∙◌, append_assoc, arith}
use Rattle.std.proofs.lemmas.Bool.Decides.{nat_tests}
use Rattle.std.proofs.lemmas.List.{take_more, append-nil}
use Rattle.kit_async_model.specs.declared.about.Fact.{Fact}
use Rattle.kit_async_model.specs.Abouts.{fact_lines, all_facts}

facts-append : (told : List (List ℕ)) (xs ys : List Fact) → all_facts told (xs ++ ys) ≡ all_facts told xs ++ all_facts told ys
facts-append told [] ys = refl
facts-append told (x ∷ xs) ys =
    ap (λ (ls : List (List ℕ)). fact_lines told x ++ ls) (facts-append told xs ys) ∙ sym (append_assoc (fact_lines told x) (all_facts told xs) (all_facts told ys))

-- one fact more
pub facts_next : (told : List (List ℕ)) (facts : List Fact) (n : ℕ) (fact : Fact) → n < length facts → fact ≡ get_or facts n fact
    → all_facts told (take (n + 1) facts) ≡ all_facts told (take n facts) ++ fact_lines told fact
facts_next told facts n fact within is =
    ap (all_facts told) (take_more facts n fact within)
    ∙ facts-append told (take n facts) (get_or facts n fact ∷ [])
    ∙ ap (λ (ls : List (List ℕ)). all_facts told (take n facts) ++ ls) (append-nil (fact_lines told (get_or facts n fact)) ∙ ap (fact_lines told) (sym is))

pub not_zero : (n : ℕ) → (suc n == 0) ≡ false
not_zero n = grind (arith, nat_tests)
