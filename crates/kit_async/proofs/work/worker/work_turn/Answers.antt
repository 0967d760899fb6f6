use Rattle.std.proofs.Common.{subst, Some}
use Rattle.kit_async_model.specs.declared.event.Event.TheVariants.{Take}
use Rattle.kit_async_model.specs.declared.event.Reply.{Reply}
use Rattle.kit_async_model.specs.declared.event.Reply.TheVariants.{Work}
use Rattle.kit_async.specs.Work.Passes.{Enters}
use Rattle.kit_async.proofs.WorkLemmas.Groups.{numbered, stands_on}
use Rattle.kit_async.proofs.WorkLemmas.Workers.{ran_took, ran_untold, ran_waits, told_work, waits_idle}
use Rattle.kit_async.proofs.work.worker.work_turn.Goals as goal

pub enter-requires : goal.enter-requires
enter-requires g c = numbered _ _ _ c.requires.stands

pub undertake-requires-clause-stands : goal.undertake-requires-clause-stands
undertake-requires-clause-stands g c = stands_on _ _ _ _ c.requires.stands c.enter.ensures.stands

pub undertake-requires-clause-asked : goal.undertake-requires-clause-asked
undertake-requires-clause-asked g c =
    told_work _ _ _ _ _ c.requires.stands (subst (Enters c.args.hall.now c.args.pass.now c.enter.new.pass Take) c.in-Some-Work.field-0-is c.in-Some-Work.ensures.some)

pub returns-in-Some-Work-clause-ran : goal.returns-in-Some-Work-clause-ran
returns-in-Some-Work-clause-ran g c = ran_took _ _ _ _ _ _ _ _ c.requires.stands c.enter.ensures.stands c.in-Some-Work.ensures.some c.undertake.ensures.ran

pub returns-in-Some-Wait-clause-ran : goal.returns-in-Some-Wait-clause-ran
returns-in-Some-Wait-clause-ran g c = ran_waits _ _ _ _ _ _ c.requires.stands c.enter.ensures.stands c.in-Some-Wait.ensures.some

pub returns-in-Some-Wait-clause-waits : goal.returns-in-Some-Wait-clause-waits
returns-in-Some-Wait-clause-waits g c = λ rests.
    (waits_idle c.args.hall.now c.args.number c.args.pass.now c.enter.new.pass c.requires.stands (subst (Enters c.args.hall.now c.args.pass.now c.enter.new.pass Take) c.in-Some-Wait.field-0-is c.in-Some-Wait.ensures.some))

pub returns-in-Some-clause-ran : goal.returns-in-Some-clause-ran
returns-in-Some-clause-ran g c = ran_waits _ _ _ _ _ _ c.requires.stands c.enter.ensures.stands c.in-Some.ensures.some

pub stop_for-requires : goal.stop_for-requires
stop_for-requires g c = numbered _ _ _ (stands_on _ _ _ _ c.requires.stands c.enter.ensures.stands)

pub returns-clause-ran : goal.returns-clause-ran
returns-clause-ran g c = ran_untold _ _ _ _ _ _ c.requires.stands c.in-None.ensures.none c.stop_for.ensures.stands c.stop_for.ensures.broken
