use Rattle.ann_key.proofs.Unique.{spelling_unique}
use Rattle.ann_key.proofs.laws.one_spelling.Goals as goal

pub returns : goal.returns
returns c = spelling_unique
