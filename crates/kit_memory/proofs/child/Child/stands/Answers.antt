use Rattle.std.proofs.Common.{subst}
use Rattle.kit_memory.specs.Children.{IsChild}
use Rattle.kit_memory.proofs.child.Child.stands.Goals as goal

pub returns : goal.returns
returns g c = subst (IsChild g.S.Feed.heard g.S.Feed.is_at_end g.V.Voice.spoke g.V.Voice.is_over g.V.Voice.is_foul g.V.Voice.lacks) c.self.view_is c.self.invariant.2
