use Rattle.kit_async.proofs.WorkLemmas.Groups.{numbered, stands_on}
use Rattle.kit_async.proofs.WorkLemmas.Workers.{ran_and_broke, ran_broken, ran_called}
use Rattle.kit_async.proofs.work.worker.work.Goals as goal

pub call-requires : goal.call-requires
call-requires g c = c.requires.asked.0

pub tell-requires : goal.tell-requires
tell-requires g c = numbered _ _ _ c.requires.stands

pub returns-then-tell-clause-ran : goal.returns-then-tell-clause-ran
returns-then-tell-clause-ran g c = ran_called _ _ _ _ _ _ _ _ c.requires.stands c.tell.ensures.stands c.requires.asked.1 c.in-Ok.ensures.text c.tell.ensures.told c.in-Ok.ensures.calls c.in-Ok.ensures.settings

pub stop_for-requires : goal.stop_for-requires
stop_for-requires g c = numbered _ _ _ (stands_on _ _ _ _ c.requires.stands c.tell.ensures.stands)

pub returns-else-tell-clause-ran : goal.returns-else-tell-clause-ran
returns-else-tell-clause-ran g c = ran_and_broke _ _ _ _ _ _ _
    (ran_called _ _ _ _ _ _ _ _ c.requires.stands c.tell.ensures.stands c.requires.asked.1 c.in-Ok.ensures.text c.tell.ensures.told c.in-Ok.ensures.calls c.in-Ok.ensures.settings)
    c.stop_for.ensures.stands c.stop_for.ensures.broken

pub stop_for-requires-in-Err : goal.stop_for-requires-in-Err
stop_for-requires-in-Err g c = numbered _ _ _ c.requires.stands

pub returns-in-Err-clause-ran : goal.returns-in-Err-clause-ran
returns-in-Err-clause-ran g c = ran_broken _ _ _ _ _ _ c.requires.stands c.stop_for-in-Err.ensures.stands c.stop_for-in-Err.ensures.broken c.in-Err.ensures.calls c.in-Err.ensures.settings
