use Rattle.std.proofs.Common.{◌<◌, length, refl, subst, sym, arith}
use Rattle.std.proofs.lemmas.Option.{slice_get_read}
use Rattle.kit_async.specs.Work.Calling.{hand_of}
use Rattle.kit_async.proofs.Turning.{Can, Goes, all_none, one_can, one_goes}
use Rattle.kit_async.proofs.alone.work_once.Goals as goal

pub loop-at-init : goal.loop-at-init
loop-at-init g c = all_none (λ w. w.hall.now) (λ w. w.number) (λ w. w.pass) (λ w. hand_of (g.K.Remote.calls w.remote) (g.K.Remote.settings w.remote)) c.args.workers.now c.requires

pub turn-turn-requires : goal.turn-turn-requires
turn-turn-requires g c =
    let within : c.loop-at.at < length c.loop-at.workers = omega (arith, c.loop-at-test.true, c.loop-at.auto.workers) in
    let there = slice_get_read c.loop-at.workers (length c.loop-at.workers) c.loop-at.at c.index-workers-at.result refl within c.index-workers-at.is in
    subst (Can (λ w. w.hall.now) (λ w. w.number) (λ w. w.pass) (λ w. hand_of (g.K.Remote.calls w.remote) (g.K.Remote.settings w.remote))) c.index-workers-at.is (one_can (λ w. w.hall.now) (λ w. w.number) (λ w. w.pass) (λ w. hand_of (g.K.Remote.calls w.remote) (g.K.Remote.settings w.remote)) c.args.workers.now c.loop-at.workers c.loop-at.at c.index-workers-at.result c.loop-at.invariant there)

pub loop-at-preserved : goal.loop-at-preserved
loop-at-preserved g c =
    let within : c.loop-at.at < length c.loop-at.workers = omega (arith, c.loop-at-test.true, c.loop-at.auto.workers) in
    let there = slice_get_read c.loop-at.workers (length c.loop-at.workers) c.loop-at.at c.index-workers-at.result refl within c.index-workers-at.is in
    one_goes (λ w. w.hall.now) (λ w. w.number) (λ w. w.pass) (λ w. hand_of (g.K.Remote.calls w.remote) (g.K.Remote.settings w.remote)) c.args.workers.now c.loop-at.workers c.loop-at.at c.index-workers-at.result c.turn-turn.new.self c.loop-at.invariant there
    (subst (λ w. Goes (λ w. w.hall.now) (λ w. w.number) (λ w. w.pass) (λ w. hand_of (g.K.Remote.calls w.remote) (g.K.Remote.settings w.remote)) w c.turn-turn.new.self) (sym c.index-workers-at.is) c.turn-turn.ensures)
