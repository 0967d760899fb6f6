use Rattle.ann_key.specs.Pairs.{Pairwise}
use Rattle.kit_async.specs.Work.Calling.{hand_of}
use Rattle.kit_async.specs.Turns.{WorkerWent}
use Rattle.kit_async.proofs.alone.work_once.Given as goal

abbrev pub invariant-loop-at : goal.invariant-loop-at
invariant-loop-at g l = Pairwise (λ w v. WorkerWent w.hall.now w.number w.pass (hand_of (g.K.Remote.calls w.remote) (g.K.Remote.settings w.remote)) v.hall.now v.number v.pass (hand_of (g.K.Remote.calls v.remote) (g.K.Remote.settings v.remote))) l.initial.workers l.workers
