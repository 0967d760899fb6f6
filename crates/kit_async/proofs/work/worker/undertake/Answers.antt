use Rattle.std.proofs.Common.{refl}
use Rattle.kit_async.proofs.WorkLemmas.Groups.{numbered}
use Rattle.kit_async.proofs.WorkLemmas.Workers.{ran_broken}
use Rattle.kit_async.proofs.work.worker.undertake.Goals as goal

pub stop_for-requires : goal.stop_for-requires
stop_for-requires g c = numbered _ _ _ c.requires.stands

pub returns-else-can_be_asked-clause-ran : goal.returns-else-can_be_asked-clause-ran
returns-else-can_be_asked-clause-ran g c = ran_broken _ _ _ _ _ _ c.requires.stands c.stop_for.ensures.stands c.stop_for.ensures.broken refl refl
