use Rattle.journal_reader.proofs.LineFields.{numbered}
use Rattle.journal_reader.proofs.fields.stamp_of.Goals as goal

pub returns-in-Some : goal.returns-in-Some
returns-in-Some c = numbered c.args.line.now c.in-Some.text.now c.in-Some.ensures c.decimal_of.result c.decimal_of.ensures
