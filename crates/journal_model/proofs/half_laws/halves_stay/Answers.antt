use Rattle.journal_model.proofs.Ears.{ear_apart}
use Rattle.journal_model.proofs.Mouths.{mouth_apart}
use Rattle.journal_model.proofs.Turns.{turn_apart, tagged_turn}
use Rattle.journal_model.proofs.half_laws.halves_stay.Goals as goal

pub returns-clause-ear : goal.returns-clause-ear
returns-clause-ear c = ear_apart

pub returns-clause-mouth : goal.returns-clause-mouth
returns-clause-mouth c = mouth_apart

pub returns-clause-turn : goal.returns-clause-turn
returns-clause-turn c = turn_apart

pub returns-clause-tagged : goal.returns-clause-tagged
returns-clause-tagged c = tagged_turn
