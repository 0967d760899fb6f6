use Rattle.std.proofs.Common.{ℕ, List, ap, ◌∙◌}
use Rattle.ann_key.specs.KeyRefs.{text_of}
use Rattle.kit_serve.specs.declared.kit.call.Asked.TheVariants.{Retrieve}
use Rattle.dir_remote.specs.Guard.Guards.{told_by}
use Rattle.remote_dir_bin.proofs.Courses.{follows_told}
use Rattle.remote_dir_bin.proofs.following.FollowedRemote.retrieve.Goals as goal

pub invariant_of-self : goal.invariant_of-self
invariant_of-self g c =
    let steps = g.P.Place.steps in
    let told = g.D.Desk.told in
    follows_told c.self.inside.remote.sweeps c.retrieve-said.new.self.sweeps c.self.inside.calls.items c.note.new.calls.items
    (told_by steps told c.self.inside.remote) (told_by steps told c.retrieve-said.new.self) (Retrieve (text_of c.args.key) c.args.file.now) (Retrieve c.in_ok-copy.field-0 c.in_ok-copy-2.field-0) c.retrieve-said.result c.note.result
    c.self.invariant c.retrieve-said.ensures.retrieved c.retrieve-said.ensures.kept.sweeps (ap (λ (k : List ℕ). Retrieve k c.in_ok-copy-2.field-0) c.in_ok-copy.ensures ∙ ap (λ (f : List ℕ). Retrieve (text_of c.args.key) f) c.in_ok-copy-2.ensures) c.note.ensures.same c.note.ensures.calls
