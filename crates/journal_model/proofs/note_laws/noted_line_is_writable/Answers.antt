use Rattle.journal_model.proofs.Noting.{writable}
use Rattle.journal_model.proofs.note_laws.noted_line_is_writable.Goals as goal

pub returns : goal.returns
returns c = λ o task chunk count uuid size. writable o task chunk count uuid size
