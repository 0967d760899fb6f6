use Rattle.std.proofs.Common.{◌<◌, ◌≤◌, ℕ, List, not, length, IsTrue, refl, ap, ◌∙◌, subst}
use Rattle.annex_model.specs.Lines.{has_newline}
use Rattle.kit_serve.proofs.KitLemmas.FirstLines.{before_whole}
use Rattle.wire_line.specs.HeldBytes.{has_line}
use Rattle.kit_serve.specs.Voices.{Hears}
use Rattle.kit_serve.proofs.Talks.{turned_line, turned_read, heard_goes, heard_ends, long_ends, read_goes, read_ends}
use Rattle.kit_serve.proofs.serving.turn.Goals as goal
use Rattle.wire_line.proofs.Limits.{long_line, no_line}
use Rattle.kit_serve.specs.Limits.{longest_line}

pub hear-heard-requires-clause-line : goal.hear-heard-requires-clause-line
hear-heard-requires-clause-line g c = ap has_newline c.in-Line.ensures.next.1 ∙ before_whole c.args.splitter.now.bytes

pub returns-in-Line-clause-goes : goal.returns-in-Line-clause-goes
returns-in-Line-clause-goes g c =
    let v = g.V.Voice in
    let held = c.args.splitter.now.bytes in
    heard_goes v.spoke v.is_over v.is_foul v.lacks (g.S.Source.told c.args.source.now).given (g.W.Sink.told c.args.sink.now).taken (g.W.Sink.told c.hear-heard.new.sink).taken
    c.args.voice.now c.hear-heard.new.voice held c.drop_line.new.self.bytes c.hear-heard.result
    (subst (λ (l : List ℕ). Hears v.spoke v.is_over v.is_foul v.lacks c.args.voice.now c.hear-heard.new.voice (g.W.Sink.told c.args.sink.now).taken (g.W.Sink.told c.hear-heard.new.sink).taken l c.hear-heard.result)
    c.in-Line.ensures.next.1 c.hear-heard.ensures.heard)
    c.drop_line.ensures.cut (subst (λ (n : ℕ). IsTrue (has_line n held)) c.requires.may.limit c.in-Line.ensures.next.0)

pub returns-in-Line-clause-ended : goal.returns-in-Line-clause-ended
returns-in-Line-clause-ended g c =
    let v = g.V.Voice in
    let held = c.args.splitter.now.bytes in
    heard_ends v.spoke v.is_over v.is_foul v.lacks (g.S.Source.told c.args.source.now).given (g.W.Sink.told c.args.sink.now).taken (g.W.Sink.told c.hear-heard.new.sink).taken
    c.args.voice.now c.hear-heard.new.voice held c.drop_line.new.self.bytes c.hear-heard.result
    (subst (λ (l : List ℕ). Hears v.spoke v.is_over v.is_foul v.lacks c.args.voice.now c.hear-heard.new.voice (g.W.Sink.told c.args.sink.now).taken (g.W.Sink.told c.hear-heard.new.sink).taken l c.hear-heard.result)
    c.in-Line.ensures.next.1 c.hear-heard.ensures.heard)
    c.drop_line.ensures.cut c.drop_line.ensures.line (subst (λ (n : ℕ). IsTrue (has_line n held)) c.requires.may.limit c.in-Line.ensures.next.0) c.requires.may.live

pub returns-in-Long-clause-ended : goal.returns-in-Long-clause-ended
returns-in-Long-clause-ended g c =
    let v = g.V.Voice in
    let held = c.args.splitter.now.bytes in
    long_ends v.spoke v.is_over v.is_foul v.lacks _ c.args.voice.now held
    (long_line longest_line held (subst (λ (n : ℕ). IsTrue (not (has_line n held))) c.requires.may.limit c.in-Long.ensures.next.0)
    (subst (λ (n : ℕ). n < length held) c.requires.may.limit c.in-Long.ensures.next.1)) c.requires.may.live

pub returns-in-More-clause-goes : goal.returns-in-More-clause-goes
returns-in-More-clause-goes g c =
    read_goes g.V.Voice.spoke (g.S.Source.told c.args.source.now).given (g.S.Source.told c.fill.new.source).given (g.W.Sink.told c.args.sink.now).taken c.args.voice.now
    c.args.splitter.now.bytes c.fill.new.splitter.bytes c.fill.result c.fill.ensures.reads

pub returns-in-More-clause-ended : goal.returns-in-More-clause-ended
returns-in-More-clause-ended g c =
    let v = g.V.Voice in
    let held = c.args.splitter.now.bytes in
    read_ends v.spoke v.is_over v.is_foul v.lacks (g.S.Source.told c.args.source.now).given (g.S.Source.told c.fill.new.source).given (g.W.Sink.told c.args.sink.now).taken c.args.voice.now
    held c.fill.new.splitter.bytes c.fill.result c.fill.ensures.reads c.fill.ensures.kept
    (no_line longest_line held (subst (λ (n : ℕ). IsTrue (not (has_line n held))) c.requires.may.limit c.in-More.ensures.next.0)
    (subst (λ (n : ℕ). length held ≤ n) c.requires.may.limit c.in-More.ensures.next.1)) c.requires.may.live c.fill.ensures.others.0 c.fill.ensures.others.1

pub returns-in-Line-clause-turned : goal.returns-in-Line-clause-turned
returns-in-Line-clause-turned g c =
    let held = c.args.splitter.now.bytes in
    turned_line _ _ held (subst (λ (n : ℕ). IsTrue (has_line n held)) c.requires.may.limit c.in-Line.ensures.next.0) refl refl

pub returns-in-More-clause-turned : goal.returns-in-More-clause-turned
returns-in-More-clause-turned g c =
    let held = c.args.splitter.now.bytes in
    turned_read _ _ held (subst (λ (n : ℕ). IsTrue (not (has_line n held))) c.requires.may.limit c.in-More.ensures.next.0) refl refl c.fill.ensures.once
