use Rattle.kit_async.proofs.WorkLemmas.Groups.{numbered, stands_on}
use Rattle.kit_async.proofs.WorkLemmas.Readers.{closed, untold}
use Rattle.kit_async.proofs.work.reader.close.Goals as goal

pub enter-requires : goal.enter-requires
enter-requires g c = numbered c.args.hall.now 1 c.args.pass.now c.requires

pub returns-clause-heard : goal.returns-clause-heard
returns-clause-heard g c = λ held. closed c.args.hall.now c.args.pass.now c.enter.new.pass c.in-Some._reply held c.requires c.enter.ensures.stands c.in-Some.ensures.some

pub stop_for-requires : goal.stop_for-requires
stop_for-requires g c = numbered c.args.hall.now 1 c.enter.new.pass (stands_on c.args.hall.now 1 c.args.pass.now c.enter.new.pass c.requires c.enter.ensures.stands)

pub returns-in_default-clause-heard : goal.returns-in_default-clause-heard
returns-in_default-clause-heard g c = λ held.
    untold c.args.hall.now c.args.pass.now c.enter.new.pass c.stop_for.new.pass held c.requires c.in_default.ensures.none c.stop_for.ensures.stands c.stop_for.ensures.broken
