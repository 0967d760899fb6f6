use Rattle.std.proofs.Common.{ℕ, sym, subst, refl}
use Rattle.crew_work.specs.Worker.AtTasks.{AtTask}
use Rattle.crew_work.proofs.WorkerLemmas.Knowing.{known_told}
use Rattle.crew_work.proofs.WorkerLemmas.Serving.{never_within}
use Rattle.crew_work.proofs.WorkerLemmas.Serving.{never_notes}
use Rattle.crew_work.proofs.BesideLemmas.Asking.{jobs_on_noted}
use Rattle.crew_work.proofs.beside.job_asker.JobAskerAsker.layouts.Goals as goal

pub returns-clause-layouts : goal.returns-clause-layouts
returns-clause-layouts g c =
    let s = c.args.self.now in
    let o = (g.D.Door.view s.door.now).opening in
    let n = (g.D.Door.view s.door.now).number in
    let seen = (g.D.Door.view s.door.now).seen in
    known_told o (g.D.Door.view c.layouts.new.door).opening n c.args.number s.task c.layouts.ensures.door.opening c.requires.task
    (subst (λ (k : ℕ). AtTask o n k seen) (sym c.requires.task) c.requires.ready.at) c.layouts.ensures.grows (never_within c.args.number) c.layouts.ensures.same

pub returns-clause-on : goal.returns-clause-on
returns-clause-on g c =
    let s = c.args.self.now in
    let o = (g.D.Door.view s.door.now).opening in
    let n = (g.D.Door.view s.door.now).number in
    let seen = (g.D.Door.view s.door.now).seen in
    record {
      door = c.layouts.ensures.door;
      child = refl;
      task = refl;
      on = jobs_on_noted o n c.args.number s.task (g.D.Door.view s.door.now).alone seen (g.D.Door.view c.layouts.new.door).seen c.requires.task c.requires.ready.book
          s.child c.layouts.ensures.same.at (never_notes c.args.number c.layouts.ensures.grows);
    }
