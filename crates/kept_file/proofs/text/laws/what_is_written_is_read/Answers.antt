use Rattle.kept_file.proofs.TextLemmas.WrittenRead.{file_right, file_registers, file_notes}
use Rattle.kept_file.proofs.text.laws.what_is_written_is_read.Goals as goal

pub returns-clause-right : goal.returns-clause-right
returns-clause-right c = λ config now notes fit. file_right config now notes fit.0 fit.1 fit.2

pub returns-clause-registers : goal.returns-clause-registers
returns-clause-registers c = λ config now notes fit. file_registers config now notes fit.0 fit.1 fit.2

pub returns-clause-notes : goal.returns-clause-notes
returns-clause-notes c = λ config now notes fit. file_notes config now notes fit.0 fit.1 fit.2
