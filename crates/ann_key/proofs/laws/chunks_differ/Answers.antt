use Rattle.ann_key.proofs.KeyLaws.{chunks_differ}
use Rattle.ann_key.proofs.laws.chunks_differ.Goals as goal

pub returns : goal.returns
returns c = chunks_differ
