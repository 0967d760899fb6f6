use Rattle.std.proofs.Common.{refl}
use Rattle.kit_async.specs.Work.Calling.{hand_of}
use Rattle.kit_async.proofs.WorkLemmas.Workers.{ran_none}
use Rattle.kit_async.proofs.roles.Worker.turn.Goals as goal

pub returns-then-went : goal.returns-then-went
returns-then-went g c =
    let w = c.args.self.now in
    (ran_none w.hall.now w.number w.pass (hand_of (g.K.Remote.calls w.remote) (g.K.Remote.settings w.remote)) c.requires, refl, refl)
