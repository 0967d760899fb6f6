use Rattle.std.proofs.Common.{List, sym, subst}
use Rattle.kit_serve.specs.declared.kit.call.Call.{Call}
use Rattle.dir_remote.specs.Guard.Guards.{told_by}
use Rattle.remote_dir_bin.specs.Following.{Follows}
use Rattle.remote_dir_bin.proofs.Courses.{follows_none}
use Rattle.remote_dir_bin.proofs.following.Followed.new.Goals as goal

pub invariant_of-result : goal.invariant_of-result
invariant_of-result g c =
    let told = told_by g.P.Place.steps g.D.Desk.told c.args.remote in
    subst (λ (calls : List Call). Follows c.args.remote.sweeps calls told) (sym c.new.ensures) (follows_none c.args.remote.sweeps told)
