use Rattle.std.proofs.Common.{◌≡◌, ◌++◌, [], ◌∷◌, true, false, take, refl, sym, ap, inl, inr}
use Rattle.std.specs.Prelude.{codes}
use Rattle.run_and_check.specs.Check.Checks.{IsAnswered}
use Rattle.std.specs.Fmt.{digits}
use Rattle.journal_model.specs.declared.answer.Answer.TheVariants.{Present}
use Rattle.journal_model.specs.Output.{answer_line}
use Rattle.journal_model.specs.Rows.{sample_key, greeting, asking, success_of, settled, answered, closed, check_present}
use Rattle.special_bin.proofs.laws.laws.check_present_is_told.Goals as goal

printed : answer_line check_present 1 Present ≡ codes "1 present" ++ 10 ∷ []
unfolding digits
printed = refl

its : IsAnswered check_present (Present ∷ []) Present
its = record {
  one = refl;
  given = refl;
  closed = record { past = greeting ++ asking ++ success_of sample_key ∷ settled ∷ answered ∷ []; closings = closed ∷ []; is = refl; answered = refl; closed = refl };
}

pub returns-clause-told : goal.returns-clause-told
returns-clause-told c = inl (Present, its, inl (refl, sym printed))

pub returns-clause-cut : goal.returns-clause-cut
returns-clause-cut c = inl (Present, its, inr (inl refl, (5, ap (take 5) (sym printed))))

pub returns-clause-unclosed : goal.returns-clause-unclosed
returns-clause-unclosed c = λ h. (let bad : false ≡ true = h.ran.ended in cc)
