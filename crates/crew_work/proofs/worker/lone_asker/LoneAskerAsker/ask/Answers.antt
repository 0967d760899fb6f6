use Rattle.std.proofs.Common.{ℕ, sym, subst, refl}
use Rattle.host_talk.specs.Request.Requests.{message_of, name_of}
use Rattle.crew_work.specs.Worker.Servings.{Serves}
use Rattle.crew_work.specs.Worker.AtTasks.{AtTask}
use Rattle.crew_work.proofs.WorkerLemmas.Knowing.{known_asked}
use Rattle.crew_work.proofs.WorkerLemmas.Serving.{server_within}
use Rattle.crew_work.proofs.WorkerLemmas.Serving.{may_later, named_well, serves_asked}
use Rattle.crew_work.proofs.worker.lone_asker.LoneAskerAsker.ask.Goals as goal

pub ask_by_link-requires-clause-may : goal.ask_by_link-requires-clause-may
ask_by_link-requires-clause-may g c = λ lone.
    (let s = c.args.self.now in
    may_later (g.D.Door.view s.door.now).opening (g.D.Door.view s.door.now).number s.link.now.ear.child c.args.number (g.D.Door.view s.door.now).alone (g.D.Door.view s.door.now).seen (message_of c.args.request.now)
    (subst (λ (k : ℕ). Serves (g.D.Door.view s.door.now).opening (g.D.Door.view s.door.now).number (g.D.Door.view s.door.now).alone s.link.now.ear.child k (g.D.Door.view s.door.now).seen) (sym c.requires.task) c.requires.ready)
    c.requires.turn c.requires.fields c.requires.file c.file_of-file.ensures lone)

pub ask_by_link-requires-clause-named : goal.ask_by_link-requires-clause-named
ask_by_link-requires-clause-named g c = named_well (name_of c.args.request.now) c.requires.name c.name_before-name.ensures

pub returns-clause-layouts : goal.returns-clause-layouts
returns-clause-layouts g c =
    let s = c.args.self.now in
    let o = (g.D.Door.view s.door.now).opening in
    let n = (g.D.Door.view s.door.now).number in
    let seen = (g.D.Door.view s.door.now).seen in
    known_asked o (g.D.Door.view c.ask_by_link.new.door).opening n c.args.number s.task c.ask_by_link.ensures.door.opening c.requires.task
    (subst (λ (k : ℕ). AtTask o n k seen) (sym c.requires.task) c.requires.ready.at) c.ask_by_link.ensures.moved (server_within s.link.now.ear.child c.args.number) (name_of c.args.request.now) (message_of c.args.request.now) c.ask_by_link.result c.ask_by_link.ensures.asked

pub returns-clause-on : goal.returns-clause-on
returns-clause-on g c =
    let s = c.args.self.now in
    record {
      door = c.ask_by_link.ensures.door;
      link = c.ask_by_link.ensures.same;
      task = refl;
      on = serves_asked (g.D.Door.view s.door.now).opening (g.D.Door.view s.door.now).number c.args.number s.task (g.D.Door.view s.door.now).alone (g.D.Door.view s.door.now).seen (g.D.Door.view c.ask_by_link.new.door).seen c.requires.task
          s.link.now.ear.child (name_of c.args.request.now) (message_of c.args.request.now) c.ask_by_link.result
          (subst (λ (k : ℕ). Serves (g.D.Door.view s.door.now).opening (g.D.Door.view s.door.now).number (g.D.Door.view s.door.now).alone s.link.now.ear.child k (g.D.Door.view s.door.now).seen) (sym c.requires.task) c.requires.ready)
          c.ask_by_link.ensures.asked c.ask_by_link.ensures.turn c.ask_by_link.ensures.moved;
    }
