use Rattle.journal_reader.proofs.Continuing.{taken_begins}
use Rattle.journal_reader.proofs.laws.what_is_taken_begins_a_text.Goals as goal

pub returns : goal.returns
returns c = taken_begins
