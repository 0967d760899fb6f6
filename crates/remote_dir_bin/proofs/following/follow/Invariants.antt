use Rattle.std.proofs.Common.{All, take}
use Rattle.dir_remote.specs.Guard.Guards.{told_by}
use Rattle.remote_dir_bin.specs.Following.{Follows}
use Rattle.remote_dir_bin.proofs.following.follow.Given as goal

-- the remotes so far
abbrev pub invariant-loop-remote : goal.invariant-loop-remote
invariant-loop-remote g l = All (λ r. Follows r.remote.sweeps r.calls (told_by g.P.Place.steps g.D.Desk.told r.remote)) (take l.remote-index l.remotes)
