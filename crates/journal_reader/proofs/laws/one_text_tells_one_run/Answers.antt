use Rattle.journal_reader.proofs.OneText.{one_run, one_told}
use Rattle.journal_reader.proofs.laws.one_text_tells_one_run.Goals as goal

pub returns-clause-told : goal.returns-clause-told
returns-clause-told c = one_told

pub returns-clause-run : goal.returns-clause-run
returns-clause-run c = λ o p journal entries can also. one_run o p journal entries can.opening also.opening can.entries also.entries
