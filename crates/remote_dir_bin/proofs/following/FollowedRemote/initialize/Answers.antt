use Rattle.std.proofs.Common.{ℕ, List, ap}
use Rattle.kit_serve.specs.declared.kit.call.Asked.TheVariants.{Prepare, Initialize}
use Rattle.dir_remote.specs.Guard.Guards.{told_by}
use Rattle.remote_dir_bin.proofs.Courses.{follows_told}
use Rattle.remote_dir_bin.proofs.following.FollowedRemote.initialize.Goals as goal

pub invariant_of-self : goal.invariant_of-self
invariant_of-self g c =
    let steps = g.P.Place.steps in
    let told = g.D.Desk.told in
    follows_told c.self.inside.remote.sweeps c.initialize-said.new.self.sweeps c.self.inside.calls.items c.note.new.calls.items
    (told_by steps told c.self.inside.remote) (told_by steps told c.initialize-said.new.self) (Initialize c.args.values.now) (Prepare c.in_ok-copy.field-0) c.initialize-said.result c.note.result
    c.self.invariant c.initialize-said.ensures.initialized c.initialize-said.ensures.sweeps (ap (λ (v : List (List ℕ)). Prepare v) c.in_ok-copy.ensures) c.note.ensures.same c.note.ensures.calls
