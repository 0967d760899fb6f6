use Rattle.journal_reader.proofs.LineFields.{few_numbered}
use Rattle.journal_reader.proofs.fields.again_of.Goals as goal

pub returns-in-Some : goal.returns-in-Some
returns-in-Some c = few_numbered c.args.line.now c.in-Some.text.now c.in-Some.ensures c.few_of.result c.few_of.ensures
