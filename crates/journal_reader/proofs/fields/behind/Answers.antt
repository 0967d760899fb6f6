use Rattle.journal_reader.proofs.LineFields.{behind_both}
use Rattle.journal_reader.proofs.fields.behind.Goals as goal

pub returns-in-Some : goal.returns-in-Some
returns-in-Some c = behind_both (λ b. b.now) c.args.word.now c.args.line.now c.in-Some.rest.now c.in-Some.ensures c.behind_space.result c.behind_space.ensures
