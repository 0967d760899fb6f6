use Rattle.std.proofs.Common.{[], ◌∷◌, inr, refl, arith}
use Rattle.kit_serve.specs.Kit.Rows.{sets}
use Rattle.kit_async_model.specs.Meaning.Rows.{setting}
use Rattle.kit_async_model.proofs.MeaningLemmas.Refusals.{unset}
use Rattle.kit_async_model.proofs.meaning.laws.worked_settings.Goals as goal

pub returns-clause-whole : goal.returns-clause-whole
returns-clause-whole c = record { values = []; firsts = []; last = sets; all = refl; few = omega arith; agree = refl; ends = inr refl; are = refl }

pub returns-clause-left_out : goal.returns-clause-left_out
returns-clause-left_out c = λ w. unset [] w

pub returns-clause-told_last : goal.returns-clause-told_last
returns-clause-told_last c = λ w. unset (setting ∷ w.0) w.1
