use Rattle.journal_model.proofs.Ears.{halves_wire}
use Rattle.journal_model.proofs.half_laws.halves_are_a_wire.Goals as goal

pub returns : goal.returns
returns c = halves_wire
