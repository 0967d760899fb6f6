use Rattle.ann_key.proofs.Unique.{reading_unique}
use Rattle.ann_key.proofs.laws.one_reading.Goals as goal

pub returns : goal.returns
returns c = reading_unique
