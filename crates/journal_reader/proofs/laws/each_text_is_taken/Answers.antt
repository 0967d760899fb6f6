use Rattle.journal_reader.proofs.Complete.{whole_is_read}
use Rattle.journal_reader.proofs.laws.each_text_is_taken.Goals as goal

pub returns : goal.returns
returns c = whole_is_read
