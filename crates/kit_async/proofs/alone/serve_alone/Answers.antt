use Rattle.kit_async.specs.Work.Calling.{hand_of}
use Rattle.kit_async.proofs.Turning.{all_both, all_can, writes_on}
use Rattle.kit_async.proofs.alone.serve_alone.Goals as goal

pub take_turns-requires-clause-workers : goal.take_turns-requires-clause-workers
take_turns-requires-clause-workers g c = all_can (λ w. w.hall.now) (λ w. w.number) (λ w. w.pass) (λ w. hand_of (g.K.Remote.calls w.remote) (g.K.Remote.settings w.remote)) c.args.workers.now c.settle.new.workers c.settle.ensures.workers

pub returns-then-settle-clause-wrote : goal.returns-then-settle-clause-wrote
returns-then-settle-clause-wrote g c = writes_on g.W.Sink.told c.args.writer.now c.settle.new.writer c.take_turns.new.writer c.settle.ensures.wrote c.take_turns.ensures.wrote

pub returns-then-settle-clause-workers : goal.returns-then-settle-clause-workers
returns-then-settle-clause-workers g c = all_both (λ w. w.hall.now) (λ w. w.number) (λ w. w.pass) (λ w. hand_of (g.K.Remote.calls w.remote) (g.K.Remote.settings w.remote)) c.args.workers.now c.settle.new.workers c.take_turns.new.workers c.settle.ensures.workers c.take_turns.ensures.workers
