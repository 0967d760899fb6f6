use Rattle.std.proofs.Common.{refl, sym, ◌∙◌}
use Rattle.task_text.proofs.Files.{file_of, no_file_of}
use Rattle.task_text.proofs.line.text_of_file.Goals as goal

pub returns-in-Ok-clause-ok : goal.returns-in-Ok-clause-ok
returns-in-Ok-clause-ok c = (
  c.in-Ok.ensures.cases.0,
  file_of c.args.bytes.now (sym c.is_empty.ensures ∙ c.if-is_empty.false) (sym c.has_byte.ensures ∙ c.if-has_byte.false)
      c.in-Ok.ensures.cases.1,
)

pub returns-in-Err-clause-err : goal.returns-in-Err-clause-err
returns-in-Err-clause-err c = (refl, no_file_of c.args.bytes.now c.in-Err.ensures.cases.0)
