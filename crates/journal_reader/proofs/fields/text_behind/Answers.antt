use Rattle.journal_reader.proofs.LineFields.{texted}
use Rattle.journal_reader.proofs.fields.text_behind.Goals as goal
use Rattle.journal_model.specs.Legality.{is_text}

pub returns-in-Some : goal.returns-in-Some
returns-in-Some c = texted (λ b. b.now) is_text c.args.word.now c.args.line.now c.in-Some.text.now c.in-Some.ensures c.text_of.result c.text_of.ensures
