use Rattle.std.proofs.Common.{refl, inl, inr}
use Rattle.special_bin.proofs.laws.info_laws.causes_complete_an_info.Goals as goal

pub returns-clause-not_started : goal.returns-clause-not_started
returns-clause-not_started c = record { printed = inl (refl, refl); complete = λ small. inr (inl refl) }
