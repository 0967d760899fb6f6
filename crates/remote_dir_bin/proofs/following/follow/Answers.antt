use Rattle.std.proofs.Common.{◌<◌, ◌≤◌, length, All, subst, arith}
use Rattle.std.proofs.lemmas.List.{take_all}
use Rattle.std.proofs.lemmas.List.Elements.{All-more}
use Rattle.dir_remote.specs.Guard.Guards.{told_by}
use Rattle.remote_dir_bin.specs.Following.{Follows}
use Rattle.remote_dir_bin.proofs.following.follow.Goals as goal

pub loop-remote-preserved : goal.loop-remote-preserved
loop-remote-preserved g c =
    let within : c.loop-remote.remote-index < length c.args.remotes.now = omega arith in
    All-more (λ r. Follows r.remote.sweeps r.calls (told_by g.P.Place.steps g.D.Desk.told r.remote)) c.args.remotes.now c.loop-remote.remote-index c.remote-item.result within
    c.loop-remote.invariant
    (subst (λ r. Follows r.remote.sweeps r.calls (told_by g.P.Place.steps g.D.Desk.told r.remote)) c.remote-item.is c.follows.ensures)

pub returns : goal.returns
returns g c =
    let whole : length c.args.remotes.now ≤ c.loop-remote.remote-index = omega arith in
    subst (λ rs. All (λ r. Follows r.remote.sweeps r.calls (told_by g.P.Place.steps g.D.Desk.told r.remote)) rs)
    (take_all c.loop-remote.remote-index c.args.remotes.now whole) c.loop-remote.invariant
