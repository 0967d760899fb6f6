use Rattle.std.proofs.Common.{ℕ, List, ap}
use Rattle.ann_key.specs.KeyRefs.{text_of}
use Rattle.kit_serve.specs.declared.kit.call.Asked.TheVariants.{Remove}
use Rattle.dir_remote.specs.Guard.Guards.{told_by}
use Rattle.remote_dir_bin.proofs.Courses.{follows_told}
use Rattle.remote_dir_bin.proofs.following.FollowedRemote.remove.Goals as goal

pub invariant_of-self : goal.invariant_of-self
invariant_of-self g c =
    let steps = g.P.Place.steps in
    let told = g.D.Desk.told in
    follows_told c.self.inside.remote.sweeps c.remove-said.new.self.sweeps c.self.inside.calls.items c.note.new.calls.items
    (told_by steps told c.self.inside.remote) (told_by steps told c.remove-said.new.self) (Remove (text_of c.args.key)) (Remove c.in_ok-copy.field-0) c.remove-said.result c.note.result
    c.self.invariant c.remove-said.ensures.removed c.remove-said.ensures.kept.sweeps (ap (λ (k : List ℕ). Remove k) c.in_ok-copy.ensures) c.note.ensures.same c.note.ensures.calls
