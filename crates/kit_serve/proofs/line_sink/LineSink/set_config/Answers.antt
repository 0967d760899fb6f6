use Rattle.std.proofs.Common.{ap, ◌∙◌}
use Rattle.std.proofs.lemmas.Bool.{not-true}
use Rattle.annex_model.specs.Lines.{has_newline}
use Rattle.kit_serve.proofs.KitLemmas.FirstLines.{before_whole}
use Rattle.kit_serve.proofs.KitLemmas.KeyLines.{fields_free}
use Rattle.kit_serve.proofs.line_sink.LineSink.set_config.Goals as goal

pub tell-requires-clause-line : goal.tell-requires-clause-line
tell-requires-clause-line g c =
    fields_free c.args.name.now c.first_line.result.now (not-true (has_newline c.args.name.now) c.requires.line) (ap has_newline c.first_line.ensures ∙ before_whole c.args.value.now)
