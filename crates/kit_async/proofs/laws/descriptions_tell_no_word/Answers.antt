use Rattle.kit_async.proofs.Speaking.{descriptions_tell_no_word}
use Rattle.kit_async.proofs.laws.descriptions_tell_no_word.Goals as goal

pub returns : goal.returns
returns c = descriptions_tell_no_word
