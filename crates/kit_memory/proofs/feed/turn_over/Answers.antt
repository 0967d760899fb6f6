use Rattle.std.proofs.Common.{◌<◌, ◌≤◌, ℕ, List, Some, not, length, IsTrue, ap, ◌∙◌, subst}
use Rattle.annex_model.specs.Lines.{has_newline}
use Rattle.kit_serve.proofs.KitLemmas.FirstLines.{before_whole}
use Rattle.wire_line.specs.HeldBytes.{has_line}
use Rattle.kit_serve.specs.Voices.{Hears}
use Rattle.kit_memory.proofs.Children.{heard_grows, no_end, stays_grown}
use Rattle.kit_serve.proofs.Talks.{heard_goes, heard_ends, long_ends, read_goes, read_ends}
use Rattle.kit_memory.proofs.feed.turn_over.Goals as goal
use Rattle.wire_line.proofs.Limits.{long_line, no_line}
use Rattle.kit_serve.specs.Limits.{longest_line}

pub hear-heard-requires-clause-line : goal.hear-heard-requires-clause-line
hear-heard-requires-clause-line g c = ap has_newline c.in-Line.ensures.next.1 ∙ before_whole c.args.splitter.now.bytes

pub returns-in-Line-clause-goes : goal.returns-in-Line-clause-goes
returns-in-Line-clause-goes g c =
    let v = g.V.Voice in
    let held = c.args.splitter.now.bytes in
    heard_goes v.spoke v.is_over v.is_foul v.lacks (Some (g.S.Feed.heard c.args.source.now)) (g.W.Sink.told c.args.sink.now).taken (g.W.Sink.told c.hear-heard.new.sink).taken
    c.args.voice.now c.hear-heard.new.voice held c.drop_line.new.self.bytes c.hear-heard.result
    (subst (λ (l : List ℕ). Hears v.spoke v.is_over v.is_foul v.lacks c.args.voice.now c.hear-heard.new.voice (g.W.Sink.told c.args.sink.now).taken (g.W.Sink.told c.hear-heard.new.sink).taken l c.hear-heard.result)
    c.in-Line.ensures.next.1 c.hear-heard.ensures.heard)
    c.drop_line.ensures.cut (subst (λ (n : ℕ). IsTrue (has_line n held)) c.requires.limit c.in-Line.ensures.next.0)

pub returns-in-Line-clause-ended : goal.returns-in-Line-clause-ended
returns-in-Line-clause-ended g c =
    let v = g.V.Voice in
    let held = c.args.splitter.now.bytes in
    heard_ends v.spoke v.is_over v.is_foul v.lacks (Some (g.S.Feed.heard c.args.source.now)) (g.W.Sink.told c.args.sink.now).taken (g.W.Sink.told c.hear-heard.new.sink).taken
    c.args.voice.now c.hear-heard.new.voice held c.drop_line.new.self.bytes c.hear-heard.result
    (subst (λ (l : List ℕ). Hears v.spoke v.is_over v.is_foul v.lacks c.args.voice.now c.hear-heard.new.voice (g.W.Sink.told c.args.sink.now).taken (g.W.Sink.told c.hear-heard.new.sink).taken l c.hear-heard.result)
    c.in-Line.ensures.next.1 c.hear-heard.ensures.heard)
    c.drop_line.ensures.cut c.drop_line.ensures.line (subst (λ (n : ℕ). IsTrue (has_line n held)) c.requires.limit c.in-Line.ensures.next.0) c.requires.live

pub returns-in-Line-clause-end : goal.returns-in-Line-clause-end
returns-in-Line-clause-end g c = λ eof.
    absurd (no_end g.V.Voice.spoke g.V.Voice.is_over g.V.Voice.is_foul g.V.Voice.lacks c.args.voice.now c.hear-heard.new.voice (g.W.Sink.told c.args.sink.now).taken (g.W.Sink.told c.hear-heard.new.sink).taken
    _ c.hear-heard.result c.hear-heard.ensures.heard eof)

pub returns-in-Line-clause-sink : goal.returns-in-Line-clause-sink
returns-in-Line-clause-sink g c = (
  heard_grows g.V.Voice.spoke g.V.Voice.is_over g.V.Voice.is_foul g.V.Voice.lacks c.args.voice.now c.hear-heard.new.voice (g.W.Sink.told c.args.sink.now).taken (g.W.Sink.told c.hear-heard.new.sink).taken
      _ c.hear-heard.result c.hear-heard.ensures.heard,
  c.hear-heard.ensures.sink.opened,
)

pub returns-in-Long-clause-ended : goal.returns-in-Long-clause-ended
returns-in-Long-clause-ended g c =
    let v = g.V.Voice in
    let held = c.args.splitter.now.bytes in
    long_ends v.spoke v.is_over v.is_foul v.lacks _ c.args.voice.now held
    (long_line longest_line held (subst (λ (n : ℕ). IsTrue (not (has_line n held))) c.requires.limit c.in-Long.ensures.next.0)
    (subst (λ (n : ℕ). n < length held) c.requires.limit c.in-Long.ensures.next.1)) c.requires.live

pub returns-in-Long-clause-sink : goal.returns-in-Long-clause-sink
returns-in-Long-clause-sink g c = (stays_grown (g.W.Sink.told c.args.sink.now).taken, c.requires.sink.0)

pub returns-in-More-clause-goes : goal.returns-in-More-clause-goes
returns-in-More-clause-goes g c =
    read_goes g.V.Voice.spoke (Some (g.S.Feed.heard c.args.source.now)) (Some (g.S.Feed.heard c.take_in.new.source)) (g.W.Sink.told c.args.sink.now).taken c.args.voice.now
    c.args.splitter.now.bytes c.take_in.new.splitter.bytes c.take_in.result c.take_in.ensures.reads

pub returns-in-More-clause-ended : goal.returns-in-More-clause-ended
returns-in-More-clause-ended g c =
    let v = g.V.Voice in
    let held = c.args.splitter.now.bytes in
    read_ends v.spoke v.is_over v.is_foul v.lacks (Some (g.S.Feed.heard c.args.source.now)) (Some (g.S.Feed.heard c.take_in.new.source)) (g.W.Sink.told c.args.sink.now).taken c.args.voice.now
    held c.take_in.new.splitter.bytes c.take_in.result c.take_in.ensures.reads c.take_in.ensures.kept
    (no_line longest_line held (subst (λ (n : ℕ). IsTrue (not (has_line n held))) c.requires.limit c.in-More.ensures.next.0)
    (subst (λ (n : ℕ). length held ≤ n) c.requires.limit c.in-More.ensures.next.1)) c.requires.live c.take_in.ensures.others.0 c.take_in.ensures.others.1

pub returns-in-More-clause-sink : goal.returns-in-More-clause-sink
returns-in-More-clause-sink g c = (stays_grown (g.W.Sink.told c.args.sink.now).taken, c.requires.sink.0)
