use Rattle.std.proofs.Common.{None, refl, inl, inr}
use Rattle.journal_model.specs.declared.verdict.Why.TheVariants.{Foul}
use Rattle.info_and_init.specs.Info.Rows.{foul_cost}
use Rattle.info_and_init.specs.Info.Informs.{IsComplete}
use Rattle.special_bin.proofs.laws.info_laws.a_foul_cost_is_told.Goals as goal

whole : IsComplete None foul_cost
whole = inr (inr (inr (inl (Foul 17, refl, refl))))

pub returns-clause-told : goal.returns-clause-told
returns-clause-told c = record { printed = inl (refl, refl); complete = λ small. whole }

pub returns-clause-cut : goal.returns-clause-cut
returns-clause-cut c = record { printed = inr (inl refl, (6, refl)); complete = λ small. whole }
