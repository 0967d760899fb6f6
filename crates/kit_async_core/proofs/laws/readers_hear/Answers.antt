use Rattle.kit_async_core.proofs.Closings.{final_heard}
use Rattle.kit_async_core.proofs.Listening.{reader_hears}
use Rattle.kit_async_core.proofs.laws.readers_hear.Goals as goal

pub returns-clause-entered : goal.returns-clause-entered
returns-clause-entered c = λ h before after event reply one entered. reader_hears h before after event reply one entered

pub returns-clause-closed : goal.returns-clause-closed
returns-clause-closed c = λ h passes final fixed i p closed there ours one. final_heard h passes final fixed i p closed there ours one
