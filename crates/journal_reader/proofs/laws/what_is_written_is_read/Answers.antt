use Rattle.journal_reader.proofs.ReadBack.{written_is_told, written_is_read}
use Rattle.journal_reader.proofs.laws.what_is_written_is_read.Goals as goal

pub returns-clause-text : goal.returns-clause-text
returns-clause-text c = λ o journal can. written_is_told o journal can.opening can.entries

pub returns-clause-opening : goal.returns-clause-opening
returns-clause-opening c = written_is_read
