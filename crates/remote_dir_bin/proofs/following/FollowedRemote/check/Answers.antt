use Rattle.std.proofs.Common.{ℕ, List, ap}
use Rattle.ann_key.specs.KeyRefs.{text_of}
use Rattle.kit_serve.specs.declared.kit.call.Asked.TheVariants.{Check}
use Rattle.dir_remote.specs.Guard.Guards.{told_by}
use Rattle.remote_dir_bin.proofs.Courses.{follows_told}
use Rattle.remote_dir_bin.proofs.following.FollowedRemote.check.Goals as goal

pub invariant_of-self : goal.invariant_of-self
invariant_of-self g c =
    let steps = g.P.Place.steps in
    let told = g.D.Desk.told in
    follows_told c.self.inside.remote.sweeps c.check-said.new.self.sweeps c.self.inside.calls.items c.note.new.calls.items
    (told_by steps told c.self.inside.remote) (told_by steps told c.check-said.new.self) (Check (text_of c.args.key)) (Check c.in_ok-copy.field-0) c.check-said.result c.note.result
    c.self.invariant c.check-said.ensures.checked c.check-said.ensures.kept.sweeps (ap (λ (k : List ℕ). Check k) c.in_ok-copy.ensures) c.note.ensures.same c.note.ensures.calls
