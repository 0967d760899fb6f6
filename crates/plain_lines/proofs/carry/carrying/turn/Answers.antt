use Rattle.std.proofs.Common.{◌<◌, ◌≤◌, ℕ, List, not, length, IsTrue, subst}
use Rattle.wire_line.specs.HeldBytes.{has_line}
use Rattle.plain_lines.specs.Carry.Turns.{Passes}
use Rattle.plain_lines.proofs.CarryLemmas.Turning.{line_goes, line_ends, long_ends, read_goes, read_ends}
use Rattle.plain_lines.proofs.carry.carrying.turn.Goals as goal
use Rattle.wire_line.proofs.Limits.{long_line, no_line}
use Rattle.plain_lines.specs.Carry.Carries.{longest_line}

pub returns-in-Line-clause-goes : goal.returns-in-Line-clause-goes
returns-in-Line-clause-goes g c =
    let held = c.args.splitter.now.bytes in
    line_goes g.V.Way.passes (g.S.Source.told c.args.source.now).given (g.W.Sink.told c.args.sink.now).taken (g.W.Sink.told c.pass_line-passed.new.sink).taken held c.drop_line.new.self.bytes c.pass_line-passed.result
    (subst (λ (l : List ℕ). Passes g.V.Way.passes (g.W.Sink.told c.args.sink.now).taken (g.W.Sink.told c.pass_line-passed.new.sink).taken l c.pass_line-passed.result) c.in-Line.ensures.next.1 c.pass_line-passed.ensures.passes)
    c.drop_line.ensures.cut (subst (λ (n : ℕ). IsTrue (has_line n held)) c.requires.limit c.in-Line.ensures.next.0)

pub returns-in-Line-clause-ended : goal.returns-in-Line-clause-ended
returns-in-Line-clause-ended g c =
    let held = c.args.splitter.now.bytes in
    line_ends g.V.Way.passes (g.S.Source.told c.args.source.now).given (g.W.Sink.told c.args.sink.now).taken (g.W.Sink.told c.pass_line-passed.new.sink).taken held c.drop_line.new.self.bytes c.pass_line-passed.result
    (subst (λ (l : List ℕ). Passes g.V.Way.passes (g.W.Sink.told c.args.sink.now).taken (g.W.Sink.told c.pass_line-passed.new.sink).taken l c.pass_line-passed.result) c.in-Line.ensures.next.1 c.pass_line-passed.ensures.passes)
    c.drop_line.ensures.cut (subst (λ (n : ℕ). IsTrue (has_line n held)) c.requires.limit c.in-Line.ensures.next.0)

pub returns-in-Long-clause-ended : goal.returns-in-Long-clause-ended
returns-in-Long-clause-ended g c =
    let held = c.args.splitter.now.bytes in
    long_ends g.V.Way.passes (g.S.Source.told c.args.source.now).given (g.W.Sink.told c.args.sink.now).taken held
    (long_line longest_line held (subst (λ (n : ℕ). IsTrue (not (has_line n held))) c.requires.limit c.in-Long.ensures.next.0)
    (subst (λ (n : ℕ). n < length held) c.requires.limit c.in-Long.ensures.next.1))

pub returns-in-More-clause-goes : goal.returns-in-More-clause-goes
returns-in-More-clause-goes g c =
    read_goes g.V.Way.passes (g.S.Source.told c.args.source.now).given (g.S.Source.told c.fill.new.source).given (g.W.Sink.told c.args.sink.now).taken
    c.args.splitter.now.bytes c.fill.new.splitter.bytes c.fill.result c.fill.ensures.reads

pub returns-in-More-clause-ended : goal.returns-in-More-clause-ended
returns-in-More-clause-ended g c =
    let held = c.args.splitter.now.bytes in
    read_ends g.V.Way.passes (g.S.Source.told c.args.source.now).given (g.S.Source.told c.fill.new.source).given (g.W.Sink.told c.args.sink.now).taken
    held c.fill.new.splitter.bytes c.fill.result c.fill.ensures.reads c.fill.ensures.kept
    (no_line longest_line held (subst (λ (n : ℕ). IsTrue (not (has_line n held))) c.requires.limit c.in-More.ensures.next.0)
    (subst (λ (n : ℕ). length held ≤ n) c.requires.limit c.in-More.ensures.next.1)) c.fill.ensures.others.0 c.fill.ensures.others.1
