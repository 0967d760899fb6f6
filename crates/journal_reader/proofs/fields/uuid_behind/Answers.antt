use Rattle.uuid.specs.Text.{hyphenated_text, lower}
use Rattle.journal_reader.specs.RunTexts.{is_uuid}
use Rattle.journal_reader.proofs.LineFields.{texted}
use Rattle.journal_reader.proofs.fields.uuid_behind.Goals as goal

pub returns-in-Some : goal.returns-in-Some
returns-in-Some c = texted (hyphenated_text lower) is_uuid c.args.word.now c.args.line.now c.in-Some.text.now c.in-Some.ensures c.uuid_of.result c.uuid_of.ensures
