use Rattle.std.proofs.Common.{◌≡◌, map, subst, vec_capacity, vec_len}
use Rattle.mirror_remote.specs.Starts.Stops.{StoppedValue}
use Rattle.mirror_remote.proofs.StartsLemmas.Adding.{finished_journals}
use Rattle.mirror_remote.proofs.starts.stopped.Stopped.finish.Goals as goal

pub returns-clause-journals : goal.returns-clause-journals
returns-clause-journals g c =
    subst (λ (s : StoppedValue). map (λ j. j.entries) c.add_journals.new.journals.items ≡ map (λ l. l.journal) s.logs) c.self.view_is
    (finished_journals (λ j. j.entries) c.self.inside.journals.items c.self.inside.cores.items (map (λ j. j.entries) c.add_journals.new.journals.items)
    c.self.inside.wires.items
    (vec_len c.self.inside.cores) (vec_len c.self.inside.wires) (vec_len c.self.inside.journals) (vec_capacity c.self.inside.cores) (vec_capacity c.self.inside.wires) (vec_capacity c.self.inside.journals) c.self.inside.spare
    c.self.inside.journals.ok.0 c.self.invariant c.add_journals.ensures)
