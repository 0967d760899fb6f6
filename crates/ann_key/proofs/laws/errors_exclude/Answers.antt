use Rattle.ann_key.proofs.KeyLaws.{errors_exclude}
use Rattle.ann_key.proofs.laws.errors_exclude.Goals as goal

pub returns : goal.returns
returns c = errors_exclude
