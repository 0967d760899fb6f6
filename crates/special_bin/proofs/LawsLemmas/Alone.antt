-- What a worked check is told by.
use Rattle.std.proofs.Common.{◌≡◌, ℕ, List, [], ◌∷◌, Option, Some, sym, ◌∙◌, inl, inr}
use Rattle.journal_model.specs.declared.answer.Answer.{Answer}
use Rattle.journal_model.specs.declared.entry.Entry.{Entry}
use Rattle.run_and_check.specs.Run.Runs.{answer_of}
use Rattle.special_cli.specs.Endings.{IsTold}

-- by the answer that the journal gave, and by no other
pub told_alone : (status : ℕ) (out : Option (List ℕ)) (journal : List Entry) (given answer : Answer) → answer_of journal 1 ≡ Some given
    → IsTold status ⊥ (Some []) out journal (answer ∷ []) → answer ≡ given
told_alone status out journal given answer is (inl t) = one t.1.one ∙ sym (some given t.0 (sym is ∙ t.1.given))
  where
    one : answer ∷ [] ≡ t.0 ∷ [] → answer ≡ t.0
    one e = cc

    some : (x y : Answer) → Some x ≡ Some y → x ≡ y
    some x y e = cc
told_alone status out journal given answer is (inr u) = absurd (let bad : answer ∷ [] ≡ [] = u.none in cc)
