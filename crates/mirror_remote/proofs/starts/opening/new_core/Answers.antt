use Rattle.mirror_remote.proofs.StartsLemmas.MayBegin.{may_begin}
use Rattle.mirror_remote.proofs.starts.opening.new_core.Goals as goal

pub new-requires : goal.new-requires
new-requires c = may_begin c.args.registers.now c.in_ok-opening.opening c.in_ok-opening.ensures
