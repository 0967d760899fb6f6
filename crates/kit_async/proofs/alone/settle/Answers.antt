use Rattle.std.proofs.Common.{◌∙◌, refl, sym}
use Rattle.kit_async.specs.Work.Calling.{hand_of}
use Rattle.kit_async.proofs.Turning.{all_both, all_can, all_none, both_rest, writes_none, writes_on}
use Rattle.kit_async.proofs.alone.settle.Goals as goal

pub loop-init : goal.loop-init
loop-init g c = record {
  can = tt;
  finite = tt;
  wrote = writes_none g.W.Sink.told c.args.writer.now c.requires.writer;
  workers = all_none (λ w. w.hall.now) (λ w. w.number) (λ w. w.pass) (λ w. hand_of (g.K.Remote.calls w.remote) (g.K.Remote.settings w.remote)) c.args.workers.now c.requires.workers;
}

pub work_once-worked-requires : goal.work_once-worked-requires
work_once-worked-requires g c = all_can (λ w. w.hall.now) (λ w. w.number) (λ w. w.pass) (λ w. hand_of (g.K.Remote.calls w.remote) (g.K.Remote.settings w.remote)) c.args.workers.now c.loop.workers c.loop.invariant.workers

pub turn-wrote-requires : goal.turn-wrote-requires
turn-wrote-requires g c = record { can = c.loop.invariant.wrote.1 }

pub loop-preserved : goal.loop-preserved
loop-preserved g c =
    let i = c.loop.invariant in
    let w = c.turn-wrote.ensures in
    record {
      can = tt;
      finite = tt;
      wrote = writes_on g.W.Sink.told c.args.writer.now c.loop.writer c.turn-wrote.new.self i.wrote (w.went, w.can, w.hall);
      workers = all_both (λ w. w.hall.now) (λ w. w.number) (λ w. w.pass) (λ w. hand_of (g.K.Remote.calls w.remote) (g.K.Remote.settings w.remote)) c.args.workers.now c.loop.workers c.work_once-worked.new.workers i.workers c.work_once-worked.ensures;
    }

pub returns-in-Rests-clause-wrote : goal.returns-in-Rests-clause-wrote
returns-in-Rests-clause-wrote g c =
    let w = c.turn-wrote.ensures in
    writes_on g.W.Sink.told c.args.writer.now c.loop.writer c.turn-wrote.new.self c.loop.invariant.wrote (w.went, w.can, w.hall)

pub returns-in-Rests-clause-workers : goal.returns-in-Rests-clause-workers
returns-in-Rests-clause-workers g c = all_both (λ w. w.hall.now) (λ w. w.number) (λ w. w.pass) (λ w. hand_of (g.K.Remote.calls w.remote) (g.K.Remote.settings w.remote)) c.args.workers.now c.loop.workers c.work_once-worked.new.workers c.loop.invariant.workers c.work_once-worked.ensures

pub returns-in-Rests-clause-settled : goal.returns-in-Rests-clause-settled
returns-in-Rests-clause-settled g c = λ well. c.turn-wrote.ensures.waits (both_rest c.turn-wrote.result c.work_once-worked.result (sym c.and.ensures ∙ c.in-Rests.is))

pub returns-in-Over-clause-wrote : goal.returns-in-Over-clause-wrote
returns-in-Over-clause-wrote g c =
    let w = c.turn-wrote.ensures in
    writes_on g.W.Sink.told c.args.writer.now c.loop.writer c.turn-wrote.new.self c.loop.invariant.wrote (w.went, w.can, w.hall)

pub returns-in-Over-clause-workers : goal.returns-in-Over-clause-workers
returns-in-Over-clause-workers g c = all_both (λ w. w.hall.now) (λ w. w.number) (λ w. w.pass) (λ w. hand_of (g.K.Remote.calls w.remote) (g.K.Remote.settings w.remote)) c.args.workers.now c.loop.workers c.work_once-worked.new.workers c.loop.invariant.workers c.work_once-worked.ensures
