use Rattle.std.proofs.Common.{◌≡◌, None}
use Rattle.kit_serve.specs.Limits.{longest_line}
use Rattle.kit_async.specs.Work.Reading.{ReaderRan, ear_of}
use Rattle.kit_async.proofs.work.reader.listen.Given as goal

abbrev pub invariant-loop : goal.invariant-loop
invariant-loop g l = record {
  can : (goal.iterator-loop g).can_next l.iterator';
  finite : (goal.iterator-loop g).is_finite l.iterator';
  limit : l.splitter.limit ≡ longest_line;
  ran : ReaderRan l.hall l.initial.pass l.pass
      (ear_of (g.S.Source.told l.initial.source) l.initial.splitter.bytes) (ear_of (g.S.Source.told l.source) l.splitter.bytes) None;
}
