use Rattle.std.proofs.Common.{ℕ, sym, subst, refl}
use Rattle.host_talk.specs.Request.Requests.{message_of, name_of}
use Rattle.crew_work.specs.Worker.AtTasks.{AtTask}
use Rattle.crew_work.proofs.WorkerLemmas.Knowing.{known_asked}
use Rattle.crew_work.proofs.WorkerLemmas.Doing.{jobs_within}
use Rattle.crew_work.proofs.BesideLemmas.Asking.{jobs_on_asked}
use Rattle.crew_work.proofs.beside.job_asker.JobAskerAsker.ask.Goals as goal

pub returns-clause-layouts : goal.returns-clause-layouts
returns-clause-layouts g c =
    let s = c.args.self.now in
    let o = (g.D.Door.view s.door.now).opening in
    let n = (g.D.Door.view s.door.now).number in
    let seen = (g.D.Door.view s.door.now).seen in
    known_asked o (g.D.Door.view c.ask_for.new.door).opening n c.args.number s.task c.ask_for.ensures.door.opening c.requires.task
    (subst (λ (k : ℕ). AtTask o n k seen) (sym c.requires.task) c.requires.ready.at) c.ask_for.ensures.grows (jobs_within s.child c.args.number) (name_of c.args.request.now) (message_of c.args.request.now) c.ask_for.result c.ask_for.ensures.asked

pub returns-clause-on : goal.returns-clause-on
returns-clause-on g c =
    let s = c.args.self.now in
    let o = (g.D.Door.view s.door.now).opening in
    let n = (g.D.Door.view s.door.now).number in
    let seen = (g.D.Door.view s.door.now).seen in
    record {
      door = c.ask_for.ensures.door;
      child = refl;
      task = refl;
      on = jobs_on_asked o n c.args.number s.task (g.D.Door.view s.door.now).alone seen (g.D.Door.view c.ask_for.new.door).seen c.requires.task c.requires.ready.book
          s.child (name_of c.args.request.now) (message_of c.args.request.now) c.ask_for.result c.ask_for.ensures.asked c.ask_for.ensures.grows;
    }
