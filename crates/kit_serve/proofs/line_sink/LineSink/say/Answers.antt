use Rattle.std.proofs.Common.{sym, ◌∙◌}
use Rattle.kit_serve.proofs.WholeLines.{if_well, took_more}
use Rattle.kit_serve.proofs.line_sink.LineSink.say.Goals as goal

pub invariant_of-self : goal.invariant_of-self
invariant_of-self g c = λ live.
    let well = sym c.is_err-self-inside.ensures.value ∙ live in
    let before = c.self.invariant c.if-self.false in (
      c.put-done.ensures.stays.0,
      if_well _ c.put-done.result well c.put-done.ensures.flushed,
      took_more (g.W.Sink.told c.self.inside.begun.value).taken (g.W.Sink.told c.self.inside.sink).taken (g.W.Sink.told c.put-done.new.sink).taken c.args.lines.now before.2
          (if_well _ c.put-done.result well c.put-done.ensures.ok) c.requires,
    )
