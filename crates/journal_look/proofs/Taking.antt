-- The table of claimed tasks, after one more entry.
use Rattle.std.proofs.Common.{◌≡◌, ◌∙◌, ℕ, zero, suc, ◌+◌, ◌<◌, List, [], ◌∷◌, ◌++◌, refl, sym, ap, append-nil, append_assoc, subst, Bool, true, false, not, cond, length, get_or, set, arith, get_or-set_other, get_or-set_same}
use Rattle.std.specs.Prelude.{◌==◌, ◌||◌, ◌&&◌}
use Rattle.std.proofs.lemmas.Bool.{eqb-true, eqb-false}
use Rattle.journal_model.specs.declared.entry.What.{What}
use Rattle.journal_model.specs.declared.entry.What.TheVariants.{Claim, Again}
use Rattle.journal_model.specs.declared.entry.Entry.{Entry}
use Rattle.journal_model.specs.Legality.{claimed_after, is_claimed}
use Rattle.journal_model.proofs.Holding.{claimed_append}
use Rattle.journal_look.specs.Taken.{AreTaken, taken_after}

pub none_noted : (past : List Entry) → AreTaken past []
none_noted past = record { each = λ t within. absurd (omega arith) }

length_set : (xs : List Bool) (n : ℕ) (b : Bool) → length (set xs n b) ≡ length xs
length_set [] n b = refl
length_set (x ∷ xs) zero b = refl
length_set (x ∷ xs) (suc n) b = ap (λ (k : ℕ). suc k) (length_set xs n b)

length_after : (w : What) (taken : List Bool) → length (taken_after w taken) ≡ length taken
length_after (Claim task child) taken = length_set taken task true
length_after (Again task answer) taken = length_set taken task false
length_after w taken = refl

set_at : (task t : ℕ) (b : Bool) (taken : List Bool) → t < length taken → get_or (set taken task b) t false ≡ cond (task == t) b (get_or taken t false)
set_at task t b taken within = go (task == t) refl
  where
    go : (c : Bool) → (task == t) ≡ c → get_or (set taken task b) t false ≡ cond c b (get_or taken t false)
    go true e = subst (λ (n : ℕ). get_or (set taken n b) t false ≡ b) (sym (eqb-true task t e)) (get_or-set_same taken t b false within)
    go false e = get_or-set_other taken task t b false (λ (same : t ≡ task). eqb-false task t e (sym same))

after : (w : What) (t : ℕ) (taken : List Bool) (was : Bool) → t < length taken → get_or taken t false ≡ was → get_or (taken_after w taken) t false ≡ claimed_after t was w
after (Claim task child) t taken was within is = set_at task t true taken within ∙ ap (cond (task == t) true) is ∙ go (task == t) was
  where
    go : (c was : Bool) → cond c true was ≡ (was || c)
    go true true = refl
    go true false = refl
    go false true = refl
    go false false = refl
after (Again task answer) t taken was within is = set_at task t false taken within ∙ ap (cond (task == t) false) is ∙ go (task == t) was
  where
    go : (c was : Bool) → cond c false was ≡ (was && not c)
    go true true = refl
    go true false = refl
    go false true = refl
    go false false = refl
after w t taken was within is = is

pub taken_more : (past : List Entry) (e : Entry) (taken : List Bool) → AreTaken past taken → AreTaken (past ++ e ∷ []) (taken_after e.what taken)
taken_more past e taken are = record {
  each = λ t within.
      let long : length (taken_after e.what taken) ≡ length taken = length_after e.what taken in
      let was = are.each t (omega arith) in
      after e.what t taken (is_claimed past t) (omega arith) was ∙ sym (claimed_append past (e ∷ []) t);
}

-- the table after the entries before these last ones
pub record AreTakenBefore (entries rest : List Entry) (taken : List Bool) : Type 0 where
  pub past : List Entry
  pub parts : past ++ rest ≡ entries
  pub are : AreTaken past taken

pub taken_first : (entries : List Entry) (taken : List Bool) → AreTaken [] taken → AreTakenBefore entries entries taken
taken_first entries taken are = record { past = []; parts = refl; are = are }

pub taken_next : (entries rest more : List Entry) (e : Entry) (old new : List Bool) → rest ≡ e ∷ more → new ≡ taken_after e.what old → AreTakenBefore entries rest old
    → AreTakenBefore entries more new
taken_next entries rest more e old new first is before = record {
  past = before.past ++ e ∷ [];
  parts = append_assoc before.past (e ∷ []) more ∙ ap (λ (es : List Entry). before.past ++ es) (sym first) ∙ before.parts;
  are = subst (AreTaken (before.past ++ e ∷ [])) (sym is) (taken_more before.past e old before.are);
}

pub taken_last : (entries rest : List Entry) (taken : List Bool) → rest ≡ [] → AreTakenBefore entries rest taken → AreTaken entries taken
taken_last entries rest taken none before =
    let whole : before.past ≡ entries = sym (append-nil before.past) ∙ ap (λ (es : List Entry). before.past ++ es) (sym none) ∙ before.parts in
    subst (λ (es : List Entry). AreTaken es taken) whole before.are
