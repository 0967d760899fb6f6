use Rattle.std.proofs.Common.{◌≡◌, ◌∙◌, ℕ, ◌==◌, zero, suc, List, [], ◌++◌, take, refl, sym, ap}
use Rattle.std.specs.Prelude.{codes, bytes_eq, true, false, Option, Some, None, option_map, unwrap_or}
use Rattle.ann_outside.proofs.laws.plays_no_other.Goals as goal

differ : false ≡ true → ⊥
differ e = cc

pub returns-clause-other : goal.returns-clause-other
returns-clause-other c = λ p.
    let made = p.2 in
    let sized = made.2 in
    let read = sized.2 in
    let is : Some (codes "abc") ≡ Some (codes "ab") =
    read.2 (codes "o") ∙ read.1.1 (codes "o") ∙ sized.1.1 (codes "o") ∙ made.1.1 ∙ ap (option_map (λ (bytes : List ℕ). bytes ++ codes "ab")) p.1.0 in
    differ (ap (λ (o : Option (List ℕ)). bytes_eq (unwrap_or o []) (codes "ab")) is)

pub returns-clause-unmade : goal.returns-clause-unmade
returns-clause-unmade c = λ p. p.1.0 refl

pub returns-clause-another_part : goal.returns-clause-another_part
returns-clause-another_part c = λ p.
    let is : Some (codes "abd") ≡ Some (codes "ab" ++ take p.1.0.0 (codes "cd")) = p.2 (codes "o") ∙ p.1.0.1 in
    by_count p.1.0.0 (ap (λ (o : Option (List ℕ)). unwrap_or o []) is)
  where
    by_count : (k : ℕ) → codes "abd" ≡ codes "ab" ++ take k (codes "cd") → ⊥
    by_count zero e = differ (ap (λ (l : List ℕ). bytes_eq l (codes "abd")) (sym e))
    by_count (suc zero) e = differ (ap (λ (l : List ℕ). bytes_eq l (codes "abd")) (sym e))
    by_count (suc (suc k)) e = differ (ap (λ (l : List ℕ). bytes_eq l (codes "abd")) (sym e))

pub returns-clause-nothing : goal.returns-clause-nothing
returns-clause-nothing c = λ p. let is : Some (codes "ab") ≡ None = p (codes "o") in cc

pub returns-clause-other_length : goal.returns-clause-other_length
returns-clause-other_length c = λ p. differ (ap (λ (n : ℕ). n == 2) (p.1.0.1 (codes "ab") refl))

pub returns-clause-other_bytes : goal.returns-clause-other_bytes
returns-clause-other_bytes c = λ p. let is : codes "b" ≡ codes "a" = (p.1.0.1 (codes "ab") refl).0 in differ (ap (λ (l : List ℕ). bytes_eq l (codes "a")) is)
