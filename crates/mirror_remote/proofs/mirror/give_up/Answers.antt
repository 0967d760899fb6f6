use Rattle.mirror_remote.proofs.StartsLemmas.Stopping.{linked_serving}
use Rattle.mirror_remote.proofs.mirror.give_up.Goals as goal

pub stop_all-requires-clause-linked : goal.stop_all-requires-clause-linked
stop_all-requires-clause-linked g c κs within = rw c.replace-children.ensures.value (linked_serving c.mirror.inside.children.items c.mirror.invariant.0)
