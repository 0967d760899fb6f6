use Rattle.kit_async.specs.Work.Calling.{WorkerRan, hand_of}
use Rattle.kit_async.proofs.work.worker.toil.Given as goal

abbrev pub invariant-loop : goal.invariant-loop
invariant-loop g l = record {
  can : (goal.iterator-loop g).can_next l.iterator';
  finite : (goal.iterator-loop g).is_finite l.iterator';
  ran : WorkerRan l.hall l.number l.initial.pass l.pass (hand_of (g.K.Remote.calls l.initial.remote) (g.K.Remote.settings l.initial.remote)) (hand_of (g.K.Remote.calls l.remote) (g.K.Remote.settings l.remote));
}
