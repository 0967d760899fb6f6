use Rattle.std.proofs.Common.{◌<◌, sym, subst, vec_capacity, vec_len}
use Rattle.mirror_remote.specs.Starts.Stops.{StoppedValue}
use Rattle.mirror_remote.proofs.StartsLemmas.Adding.{unstarted_kept}
use Rattle.mirror_remote.proofs.starts.stopped.Stopped.add_unstarted.Goals as goal

pub invariant_of-self : goal.invariant_of-self
invariant_of-self g c =
    unstarted_kept c.self.inside.cores.items c.push_reserved.new.self.items c.args.core
    c.self.inside.wires.items
    (vec_len c.self.inside.cores) (vec_len c.push_reserved.new.self) (vec_len c.self.inside.wires) (vec_len c.self.inside.journals)
    (vec_capacity c.self.inside.cores) (vec_capacity c.push_reserved.new.self) (vec_capacity c.self.inside.wires) (vec_capacity c.self.inside.journals) c.self.inside.spare
    c.push_reserved.ensures.items c.requires.unstarted (subst (λ (s : StoppedValue). 0 < s.spare) (sym c.self.view_is) c.requires.room)
    c.push_reserved.ensures.len c.push_reserved.ensures.capacity c.self.invariant
