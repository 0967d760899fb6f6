use Rattle.std.proofs.Common.{[], ◌∷◌, refl, codes}
use Rattle.kit_async_model.specs.Meanings.{Says}
use Rattle.kit_async_model.proofs.meaning.laws.worked_abouts.Goals as goal

pub returns-clause-begun : goal.returns-clause-begun
returns-clause-begun c = (Says (codes "CONFIGEND") ∷ [], refl)
