use Rattle.threads.specs.Passes.{seen_of}
use Rattle.ann_key.specs.Pairs.{Pairwise}
use Rattle.kit_async.specs.Work.Calling.{hand_of}
use Rattle.kit_async.specs.Work.Writing.{AllWritten}
use Rattle.kit_async.specs.Turns.{ReaderRuns, WorkerWent, WriterRuns}
use Rattle.kit_async.proofs.alone.take_turns.Given as goal

abbrev pub invariant-loop : goal.invariant-loop
invariant-loop g l = record {
  can : (goal.iterator-loop g).can_next l.iterator';
  finite : (goal.iterator-loop g).is_finite l.iterator';
  read : ReaderRuns g.S.Source.told l.initial.reader l.reader;
  wrote : WriterRuns g.W.Sink.told l.initial.writer l.writer;
  written : AllWritten (seen_of l.writer.pass);
  workers : Pairwise (λ w v. WorkerWent w.hall.now w.number w.pass (hand_of (g.K.Remote.calls w.remote) (g.K.Remote.settings w.remote)) v.hall.now v.number v.pass (hand_of (g.K.Remote.calls v.remote) (g.K.Remote.settings v.remote))) l.initial.workers l.workers;
}
