use Rattle.std.proofs.Common.{[], ◌∷◌, refl, arith}
use Rattle.kit_serve.specs.declared.kit.call.Said.TheVariants.{No}
use Rattle.kit_async_model.specs.Meaning.Rows.{checks, absent}
use Rattle.kit_async_model.proofs.meaning.laws.worked_checks.Goals as goal

pub returns-clause-begun : goal.returns-clause-begun
returns-clause-begun c = (checks 0 No ∷ absent ∷ [], record { remote = 0; said = No; among = omega arith; are = refl })
