use Rattle.std.proofs.Common.{subst}
use Rattle.kit_async_model.specs.declared.event.Event.TheVariants.{Next}
use Rattle.kit_async.specs.Work.Passes.{Enters}
use Rattle.kit_async.proofs.WorkLemmas.Groups.{numbered, stands_on}
use Rattle.kit_async.proofs.WorkLemmas.Writers.{given_next, waits_written, wrote_given, wrote_idle, wrote_untold}
use Rattle.kit_async.proofs.work.writer.write_turn.Goals as goal

pub enter-requires : goal.enter-requires
enter-requires g c = numbered _ _ _ c.requires.stands

pub write-requires-clause-stands : goal.write-requires-clause-stands
write-requires-clause-stands g c = stands_on _ _ _ _ c.requires.stands c.enter.ensures.stands

pub write-requires-clause-line : goal.write-requires-clause-line
write-requires-clause-line g c =
    given_next _ _ _ _ c.requires.stands (subst (Enters c.args.hall.now c.args.pass.now c.enter.new.pass Next) c.in-Some-Line.field-0-is c.in-Some-Line.ensures.some)

pub returns-in-Some-Line-clause-ran : goal.returns-in-Some-Line-clause-ran
returns-in-Some-Line-clause-ran g c = wrote_given _ _ _ _ _ _ _ _ c.requires.stands c.enter.ensures.stands c.in-Some-Line.ensures.some c.requires.open c.write.ensures.ran

pub returns-in-Some-Wait-clause-ran : goal.returns-in-Some-Wait-clause-ran
returns-in-Some-Wait-clause-ran g c = wrote_idle _ _ _ _ _ c.requires.stands c.enter.ensures.stands c.in-Some-Wait.ensures.some c.requires.open

pub returns-in-Some-Wait-clause-waits : goal.returns-in-Some-Wait-clause-waits
returns-in-Some-Wait-clause-waits g c = λ rests.
    (waits_written c.args.hall.now c.args.pass.now c.enter.new.pass c.requires.stands (subst (Enters c.args.hall.now c.args.pass.now c.enter.new.pass Next) c.in-Some-Wait.field-0-is c.in-Some-Wait.ensures.some))

pub returns-in-Some-clause-ran : goal.returns-in-Some-clause-ran
returns-in-Some-clause-ran g c = wrote_idle _ _ _ _ _ c.requires.stands c.enter.ensures.stands c.in-Some.ensures.some c.requires.open

pub stop_for-requires : goal.stop_for-requires
stop_for-requires g c = numbered _ _ _ (stands_on _ _ _ _ c.requires.stands c.enter.ensures.stands)

pub returns-clause-ran : goal.returns-clause-ran
returns-clause-ran g c = wrote_untold _ _ _ _ _ _ c.requires.stands c.in-None.ensures.none c.stop_for.ensures.stands c.stop_for.ensures.broken c.requires.open c.stop_for.ensures.over
