use Rattle.std.proofs.Common.{[], ◌∷◌, inr, refl, codes, arith}
use Rattle.kit_serve.specs.declared.kit.call.Said.TheVariants.{Yes}
use Rattle.kit_async_model.proofs.MeaningLemmas.Refusals.{one_of_two, second_first, after_a_no, third_remote}
use Rattle.kit_async_model.proofs.meaning.laws.worked_preparing.Goals as goal

pub returns-clause-whole : goal.returns-clause-whole
returns-clause-whole c = record { values = codes "d" ∷ []; firsts = Yes ∷ []; last = Yes; all = refl; few = omega arith; agree = refl; ends = inr refl; are = refl }

pub returns-clause-one_of_two : goal.returns-clause-one_of_two
returns-clause-one_of_two c = λ w. one_of_two w.0 w.1

pub returns-clause-second_first : goal.returns-clause-second_first
returns-clause-second_first c = λ w. second_first w.0 w.1

pub returns-clause-after_a_no : goal.returns-clause-after_a_no
returns-clause-after_a_no c = λ w. after_a_no w.0 w.1

pub returns-clause-third_remote : goal.returns-clause-third_remote
returns-clause-third_remote c = λ w. third_remote w.0 w.1
