use Rattle.journal_model.proofs.Bounds.{reading_bounded}
use Rattle.journal_model.proofs.half_laws.reading_is_bounded.Goals as goal

pub returns : goal.returns
returns c = reading_bounded
