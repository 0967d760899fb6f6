use Rattle.std.proofs.Common.{◌-◌, ◌∙◌, sym}
use Rattle.child_link.proofs.Roles.{same_both}
use Rattle.crew_work.proofs.WorkerLemmas.Claiming.{begun_turn}
use Rattle.crew_work.proofs.WorkerLemmas.Turning.{can_again, can_as, does, given_as, is_task, legal_as, rest_as, rests_then, stays_as, task_is, task_there}
use Rattle.crew_work.proofs.worker.task.do_task.Goals as goal

pub task_at-task-requires : goal.task_at-task-requires
task_at-task-requires g c = task_there (g.D.Door.view c.args.door.now).opening c.args.tasks.now c.requires.begun.past c.args.turn.task c.requires.tasks.0 c.requires.begun.least

pub run-outcome-requires-clause-task : goal.run-outcome-requires-clause-task
run-outcome-requires-clause-task g c = is_task c.args.tasks.now (c.args.turn.task - 1) c.task_at-task.result.now c.requires.tasks.1 c.task_at-task.ensures

pub run-outcome-requires-clause-named : goal.run-outcome-requires-clause-named
run-outcome-requires-clause-named g c =
    let o = (g.D.Door.view c.args.door.now).opening in
    task_is o c.args.tasks.now c.args.turn.task c.task_at-task.result.now c.requires.tasks.0 (task_there o c.args.tasks.now c.requires.begun.past c.args.turn.task c.requires.tasks.0 c.requires.begun.least).0 c.task_at-task.ensures

pub run-outcome-requires-clause-turn : goal.run-outcome-requires-clause-turn
run-outcome-requires-clause-turn g c = λ lone. (c.requires.owns lone, begun_turn c.requires.begun lone)

pub returns-clause-does : goal.returns-clause-does
returns-clause-does g c =
    let x = g.D.Door.view c.args.door.now in
    let d = c.run-outcome.ensures.door in
    let there = task_there x.opening c.args.tasks.now c.requires.begun.past c.args.turn.task c.requires.tasks.0 c.requires.begun.least in
    does x.opening c.args.setup.now (g.W.Way.owns c.args.way.now) x.number x.alone (g.W.Way.serves c.args.way.now) c.args.turn c.task_at-task.result.now
    x.seen (g.D.Door.view c.run-outcome.new.door).seen (g.D.Door.view c.give.new.door).seen
    (g.K.Desk.told c.args.desk.now) (g.K.Desk.told c.run-outcome.new.desk)
    c.run-outcome.result c.answer_of.result (g.W.Way.wired c.args.way.now x.seen) (g.W.Way.wired c.run-outcome.new.self)
    (stays_as (g.W.Way.wired c.run-outcome.new.self) (g.W.Way.serves c.args.way.now) (g.W.Way.serves c.run-outcome.new.self) c.run-outcome.ensures.child.0 (g.met.W.Way.apart c.run-outcome.new.self))
    c.requires.begun (task_is x.opening c.args.tasks.now c.args.turn.task c.task_at-task.result.now c.requires.tasks.0 there.0 c.task_at-task.ensures) c.answer_of.ensures
    c.run-outcome.ensures.at c.run-outcome.ensures.moved c.run-outcome.ensures.ran c.run-outcome.ensures.causes
    (given_as c.answer_of.result d.opening d.number d.alone c.give.ensures.given)

pub returns-clause-can : goal.returns-clause-can
returns-clause-can g c =
    let x = g.D.Door.view c.args.door.now in
    let d = c.run-outcome.ensures.door in
    let eo = c.give.ensures.door.opening ∙ d.opening in
    let ea = c.give.ensures.door.alone ∙ d.alone in
    let stays = stays_as (g.W.Way.wired c.run-outcome.new.self) (g.W.Way.serves c.args.way.now) (g.W.Way.serves c.run-outcome.new.self) c.run-outcome.ensures.child.0 (g.met.W.Way.apart c.run-outcome.new.self) in
    let given = given_as c.answer_of.result d.opening d.number d.alone c.give.ensures.given in
    record {
      serves =
          can_as eo c.run-outcome.ensures.child.0
          (can_again x.opening c.args.setup.now (g.W.Way.owns c.args.way.now) x.number x.alone (g.W.Way.serves c.args.way.now) c.args.turn c.task_at-task.result.now
          x.seen (g.D.Door.view c.run-outcome.new.door).seen (g.D.Door.view c.give.new.door).seen
          (g.K.Desk.told c.args.desk.now) (g.K.Desk.told c.run-outcome.new.desk)
          c.run-outcome.result c.answer_of.result (g.W.Way.wired c.args.way.now x.seen) (g.W.Way.wired c.run-outcome.new.self) stays
          c.requires.begun c.run-outcome.ensures.moved given (legal_as eo (c.give.ensures.door.legal (d.legal c.requires.begun.at.legal))));
      rests = λ lone.
          (let before = sym ea ∙ lone in
          rest_as c.run-outcome.ensures.child.0
          (rests_then x.opening c.args.setup.now (g.W.Way.owns c.args.way.now) x.number x.alone (g.W.Way.serves c.args.way.now) c.args.turn c.task_at-task.result.now
          x.seen (g.D.Door.view c.run-outcome.new.door).seen (g.D.Door.view c.give.new.door).seen
          (g.K.Desk.told c.args.desk.now) (g.K.Desk.told c.run-outcome.new.desk)
          c.run-outcome.result c.answer_of.result (g.W.Way.wired c.args.way.now x.seen) (g.W.Way.wired c.run-outcome.new.self) stays
          before c.requires.begun c.run-outcome.ensures.moved (c.run-outcome.ensures.turn before) given));
    }

pub returns-clause-door : goal.returns-clause-door
returns-clause-door g c = same_both c.run-outcome.ensures.door c.give.ensures.door
