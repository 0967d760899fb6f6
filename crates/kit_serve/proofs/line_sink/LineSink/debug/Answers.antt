use Rattle.std.proofs.Common.{ap, ◌∙◌}
use Rattle.annex_model.specs.Lines.{has_newline}
use Rattle.kit_serve.proofs.KitLemmas.FirstLines.{before_whole}
use Rattle.kit_serve.proofs.line_sink.LineSink.debug.Goals as goal

pub tell-requires-clause-line : goal.tell-requires-clause-line
tell-requires-clause-line g c = ap has_newline c.first_line.ensures ∙ before_whole c.args.text.now
