use Rattle.kit_async_core.proofs.Closings.{final_finished}
use Rattle.kit_async_model.proofs.Overs.{finished_stays}
use Rattle.kit_async_core.proofs.laws.finished_stays.Goals as goal

pub returns-clause-journal : goal.returns-clause-journal
returns-clause-journal c = λ setup past rest h f d. finished_stays setup past rest h f d

pub returns-clause-closed : goal.returns-clause-closed
returns-clause-closed c = λ h passes final fixed i p closed there ours legal f. final_finished h passes final fixed i p closed there ours legal f
