use Rattle.std.proofs.Common.{◌≡◌, ◌++◌, List, [], ◌∷◌, Some, ℕ, refl, sym, inl, inr}
use Rattle.std.specs.Prelude.{codes}
use Rattle.std.specs.Fmt.{digits}
use Rattle.journal_model.specs.declared.answer.Answer.TheVariants.{Present}
use Rattle.special_cli.specs.Recoveries.{recovered_lines}
use Rattle.special_cli.specs.Tells.{IsSaidThenOr}
use Rattle.special_bin.proofs.LawsLemmas.AtZero.{not_zero}
use Rattle.special_bin.specs.Laws.Lost.{took}
use Rattle.special_bin.proofs.laws.recovery_laws.a_changed_kept_file_is_told.Goals as goal

printed : recovered_lines [] 1 (Some Present ∷ []) ≡ codes "1 present" ++ 10 ∷ []
unfolding digits
printed = refl

pub returns-clause-told : goal.returns-clause-told
returns-clause-told c = inl (inr (sym printed, inl record { status_is = refl; appended = refl }))

none_at_zero : (first second : List ℕ) → IsSaidThenOr 6 first second 0 (took (codes "1 present" ++ 10 ∷ [])) (took []) → ⊥
none_at_zero first second (inl (inl (cut, silent))) = let bad : 0 ≡ 5 = cut.status_is in cc
none_at_zero first second (inl (inr (appended, written))) = not_zero 6 second (took []) refl written
none_at_zero first second (inr said) = not_zero 7 _ (took []) refl said.0

pub returns-clause-silent : goal.returns-clause-silent
returns-clause-silent c = none_at_zero _ _
