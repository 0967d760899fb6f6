use Rattle.annex_model.proofs.Strange.{strange_blocks, blocked_strange}
use Rattle.annex_model.proofs.laws.foul_cannot_follow.Goals as goal

pub returns : goal.returns
returns c = λ replies q part at text m askable front waits reads plain.
    (strange_blocks replies q part at text m askable front reads plain, blocked_strange replies q part at text m askable front waits reads plain)
