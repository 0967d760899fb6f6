use Rattle.std.proofs.Common.{ℕ, sym, subst, refl}
use Rattle.crew_work.specs.Worker.AtTasks.{AtTask}
use Rattle.crew_work.proofs.WorkerLemmas.Knowing.{known_noted}
use Rattle.crew_work.proofs.WorkerLemmas.Serving.{noting_within}
use Rattle.crew_work.proofs.WorkerLemmas.Serving.{at_noted}
use Rattle.crew_work.proofs.BesideLemmas.Asking.{jobs_on_noted}
use Rattle.crew_work.proofs.beside.job_asker.JobAskerAsker.note.Goals as goal

pub returns-clause-layouts : goal.returns-clause-layouts
returns-clause-layouts g c =
    let s = c.args.self.now in
    let o = (g.D.Door.view s.door.now).opening in
    let n = (g.D.Door.view s.door.now).number in
    let seen = (g.D.Door.view s.door.now).seen in
    known_noted o (g.D.Door.view c.note.new.door).opening n c.args.number s.task c.note.ensures.door.opening c.requires.task
    (subst (λ (k : ℕ). AtTask o n k seen) (sym c.requires.task) c.requires.ready.at) c.note.ensures.grows (noting_within c.args.number) c.args.chunk c.args.count c.note.result c.note.ensures.noted

pub returns-clause-on : goal.returns-clause-on
returns-clause-on g c =
    let s = c.args.self.now in
    let o = (g.D.Door.view s.door.now).opening in
    let n = (g.D.Door.view s.door.now).number in
    let seen = (g.D.Door.view s.door.now).seen in
    record {
      door = c.note.ensures.door;
      child = refl;
      task = refl;
      on = jobs_on_noted o n c.args.number s.task (g.D.Door.view s.door.now).alone seen (g.D.Door.view c.note.new.door).seen c.requires.task c.requires.ready.book
          s.child (at_noted o n c.args.number seen (g.D.Door.view c.note.new.door).seen c.args.chunk c.args.count c.note.result c.note.ensures.noted) c.note.ensures.grows;
    }
