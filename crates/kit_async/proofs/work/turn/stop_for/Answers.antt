use Rattle.std.proofs.Common.{refl}
use Rattle.kit_async_model.specs.declared.event.Event.TheVariants.{Break}
use Rattle.kit_async.proofs.WorkLemmas.Groups.{answered}
use Rattle.kit_async.proofs.work.turn.stop_for.Goals as goal

pub returns-clause-broken : goal.returns-clause-broken
returns-clause-broken g c = answered c.args.hall.now c.args.pass.now c.enter.new.pass Break c.enter.result (c.enter.ensures.free refl) c.enter.ensures.some
