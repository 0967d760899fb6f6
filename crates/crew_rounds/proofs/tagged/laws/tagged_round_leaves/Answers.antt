use Rattle.crew_rounds.proofs.TaggedLemmas.TaggedRounds.{tagged_closes}
use Rattle.crew_rounds.proofs.tagged.laws.tagged_round_leaves.Goals as goal

pub returns : goal.returns
returns c = tagged_closes
