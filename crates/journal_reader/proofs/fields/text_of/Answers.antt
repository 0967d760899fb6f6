use Rattle.std.proofs.Common.{not, false, sym, ap, ◌∙◌}
use Rattle.std.specs.Str.{is_utf8}
use Rattle.std.proofs.lemmas.Bool.{and_from, and_parts}
use Rattle.std.proofs.lemmas.Str.{IsUtf8-from_is_utf8, is_utf8-from_IsUtf8}
use Rattle.annex_model.specs.Lines.{has_newline}
use Rattle.journal_reader.proofs.fields.text_of.Goals as goal
use Rattle.ann_key.proofs.Booleans.{never_true}
use Rattle.journal_model.specs.Legality.{is_text}

pub returns-in-Ok : goal.returns-in-Ok
returns-in-Ok c = (
  c.in-Ok.ensures.cases.0,
  and_from (is_utf8 c.args.text.now) (not (has_newline c.args.text.now)) (is_utf8-from_IsUtf8 c.args.text.now c.in-Ok.ensures.cases.1)
      (ap not (sym c.has_byte.ensures ∙ c.if-has_byte.false)),
)

pub returns-in-Err : goal.returns-in-Err
returns-in-Err c =
    never_true (is_text c.args.text.now)
    (λ h. c.in-Err.ensures.cases.0 (IsUtf8-from_is_utf8 c.args.text.now (and_parts (is_utf8 c.args.text.now) (not (has_newline c.args.text.now)) h).0))
