use Rattle.std.proofs.Common.{◌≡◌, true, false}
use Rattle.kit_serve.specs.Limits.{longest_line}
use Rattle.kit_serve.specs.Turns.{Leaves, sink_half, source_half}
use Rattle.kit_serve.specs.Voices.{Bytes, Talking, bytes_of}
use Rattle.kit_serve.proofs.serving.converse.Given as goal

abbrev pub invariant-loop : goal.invariant-loop
invariant-loop g l = record {
  goes : (begun : _) (old : Bytes)
      → Talking g.V.Voice.spoke begun old (bytes_of (g.S.Source.told l.initial.source) (g.W.Sink.told l.initial.sink)) l.initial.voice l.initial.splitter.bytes 0
      → Talking g.V.Voice.spoke begun old (bytes_of (g.S.Source.told l.source) (g.W.Sink.told l.sink)) l.voice l.splitter.bytes l.counter;
  live : g.V.Voice.is_over l.voice ≡ false;
  limit : l.splitter.limit ≡ longest_line;
  flushed : g.W.Mouth.is_flushed l.sink ≡ true;
  source : Leaves (source_half (g.S.Source.told l.initial.source)) (source_half (g.S.Source.told l.source)) ⊥;
  sink : Leaves (sink_half (g.W.Sink.told l.initial.sink)) (sink_half (g.W.Sink.told l.sink)) ⊥;
}
