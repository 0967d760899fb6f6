use Rattle.annex_model.proofs.TagReadings.{tagged_of_read, read_of_tagged}
use Rattle.annex_model.proofs.laws.untagging_is_tagging.Goals as goal

pub returns : goal.returns
returns c = λ line number rest. (tagged_of_read line number rest, read_of_tagged line number rest)
