use Rattle.std.proofs.Common.{List, ℕ, subst, ap, ◌∙◌}
use Rattle.ann_key.specs.KeyRefs.{text_of, parts_of}
use Rattle.annex_model.specs.Lines.{has_newline}
use Rattle.kit_serve.proofs.KitLemmas.FirstLines.{before_whole}
use Rattle.kit_serve.proofs.KitLemmas.KeyLines.{fields_free, read_free}
use Rattle.annex_model.specs.Messages.{Seturlpresent}
use Rattle.kit_serve.specs.Telling.{Tells}
use Rattle.kit_serve.proofs.line_sink.LineSink.set_url_present.Goals as goal

pub returns-clause-tells : goal.returns-clause-tells
returns-clause-tells g c =
    subst (λ (url : List ℕ). Tells g.W.Sink.told c.args.self.now c.tell.new.self (Seturlpresent (text_of c.args.key) url) c.tell.result) c.first_line.ensures c.tell.ensures.tells

pub tell-requires-clause-line : goal.tell-requires-clause-line
tell-requires-clause-line g c =
    fields_free (text_of c.args.key) c.first_line.result.now (read_free (text_of c.args.key) (parts_of c.args.key) c.args.key.spelled)
    (ap has_newline c.first_line.ensures ∙ before_whole c.args.url.now)
