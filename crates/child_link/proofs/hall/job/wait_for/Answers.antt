use Rattle.std.proofs.Common.{refl}
use Rattle.child_link.proofs.Roles.{moved_both, moved_still, same_both}
use Rattle.child_link.proofs.Asking.{asked_moved}
use Rattle.child_link.proofs.hall.job.wait_for.Goals as goal

pub loop-init : goal.loop-init
loop-init g c = record { can = tt; finite = tt; asked = c.requires.asked; grows = moved_still refl (λ u. u); door = record { opening = refl; number = refl; alone = refl; loans = refl; home = refl; legal = λ h. h } }

pub returns-in-Some-look_or_rest-clause-grows : goal.returns-in-Some-look_or_rest-clause-grows
returns-in-Some-look_or_rest-clause-grows g c = moved_both c.loop.invariant.door.number c.loop.invariant.door.alone c.loop.invariant.grows c.look_or_rest.ensures.grows

pub returns-in-Some-look_or_rest-clause-door : goal.returns-in-Some-look_or_rest-clause-door
returns-in-Some-look_or_rest-clause-door g c = same_both c.loop.invariant.door c.look_or_rest.ensures.door

pub loop-preserved : goal.loop-preserved
loop-preserved g c = record {
  can = tt;
  finite = tt;
  asked = asked_moved c.args.child c.args.child c.args.job refl c.look_or_rest.ensures.grows c.loop.invariant.asked;
  grows = moved_both c.loop.invariant.door.number c.loop.invariant.door.alone c.loop.invariant.grows c.look_or_rest.ensures.grows;
  door = same_both c.loop.invariant.door c.look_or_rest.ensures.door;
}
