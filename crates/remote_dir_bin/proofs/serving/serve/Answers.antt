use Rattle.std.proofs.Common.{All, subst}
use Rattle.dir_remote.specs.Guard.Guards.{told_by}
use Rattle.remote_dir_bin.specs.Following.{Follows}
use Rattle.remote_dir_bin.proofs.serving.serve.Goals as goal

pub returns-clause-serves : goal.returns-clause-serves
returns-clause-serves g c = rw (← c.in_ok-remotes.ensures.remotes, ← c.in_ok-facts.ensures) c.serve_async_described_timed-end.ensures.serves

pub returns-clause-followed : goal.returns-clause-followed
returns-clause-followed g c =
    subst (λ rs. All (λ r. Follows r.remote.sweeps r.calls (told_by g.P.Place.steps g.D.Desk.told r.remote)) rs) c.as_slice.ensures.value c.follow.ensures
