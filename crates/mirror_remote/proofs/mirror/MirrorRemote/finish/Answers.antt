use Rattle.std.proofs.Common.{map, refl, subst, sym}
use Rattle.mirror_remote.specs.Starts.Stops.{AreWired}
use Rattle.mirror_remote.specs.Mirrors.{EndedValue, Finishes}
use Rattle.mirror_remote.specs.Starts.Outcomes.{MirrorValue}
use Rattle.mirror_remote.proofs.Keeping.{finishes}
use Rattle.mirror_remote.proofs.StartsLemmas.Stopping.{linked_serving}
use Rattle.mirror_remote.proofs.mirror.MirrorRemote.finish.Goals as goal

pub stop_all-requires-clause-linked : goal.stop_all-requires-clause-linked
stop_all-requires-clause-linked g c κs within = linked_serving c.self.inside.children.items c.self.invariant.0

pub returns : goal.returns
returns g c =
    let i = c.self.inside in
    let m : MirrorValue = record { programs = g.P.Programs.told i.programs; children = i.children.items; logs = i.stopped.logs } in
    let e : EndedValue = record {
      programs = g.P.Programs.told c.stop_all.new.programs;
      journals = map (λ j. j.entries) c.finish-journals.result.0.items;
      wires = c.finish-journals.result.1.items;
    } in
    subst (λ (x : MirrorValue). Finishes x e) c.self.view_is
    (finishes m e i.stopped c.stop_all.new.stopped refl c.stop_all.ensures.stops c.finish-journals.ensures.journals c.finish-journals.ensures.sound
    (subst (AreWired c.stop_all.new.stopped.logs) (sym c.finish-journals.ensures.wires) c.finish-journals.ensures.wired) c.stop_all.ensures.starts c.stop_all.ensures.later)
