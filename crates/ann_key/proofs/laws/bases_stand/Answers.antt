use Rattle.ann_key.proofs.KeyLaws.{bases_stand}
use Rattle.ann_key.proofs.laws.bases_stand.Goals as goal

pub returns : goal.returns
returns c = bases_stand
