use Rattle.std.proofs.Common.{◌≡◌, None}
use Rattle.kit_async.specs.Work.Writing.{WriterRan, mouth_of}
use Rattle.kit_async.proofs.work.writer.speak.Given as goal

abbrev pub invariant-loop : goal.invariant-loop
invariant-loop g l = record {
  can : (goal.iterator-loop g).can_next l.iterator';
  finite : (goal.iterator-loop g).is_finite l.iterator';
  ran : WriterRan l.hall l.initial.pass l.pass
      (mouth_of (g.W.Sink.told l.initial.sink)) (mouth_of (g.W.Sink.told l.sink)) None;
}
