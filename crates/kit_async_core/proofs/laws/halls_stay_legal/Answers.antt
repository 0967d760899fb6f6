use Rattle.kit_async_core.proofs.KitHalls.{halls_stay_legal}
use Rattle.kit_async_core.proofs.laws.halls_stay_legal.Goals as goal

pub returns : goal.returns
returns c = λ h passes final fixed closed l. halls_stay_legal h passes final fixed closed l
