use Rattle.std.proofs.Common.{◌∙◌, refl, sym, subst, ap, ℕ, Bool}
use Rattle.journal_model.specs.declared.opening.Opening.{Opening}
use Rattle.child_link.proofs.Roles.{same_both}
use Rattle.child_link.proofs.Solo.{still_alone}
use Rattle.crew_work.specs.Worker.Works.{NoneAtWork, TurnDone}
use Rattle.crew_work.proofs.WorkerLemmas.Claiming.{can_on}
use Rattle.crew_work.proofs.WorkerLemmas.Turning.{begun_as, can_as, claims_as, fewer_behind, held_as, legal_as, named, rest_as, through_as, worked_one, worked_still}
use Rattle.crew_work.proofs.worker.turns.take_turn.Goals as goal

pub claim-requires : goal.claim-requires
claim-requires g c = record { serves = can_as refl c.child-child.ensures c.requires.can.serves; rests = λ lone. rest_as c.child-child.ensures (c.requires.can.rests lone) }

pub do_task-requires-clause-tasks : goal.do_task-requires-clause-tasks
do_task-requires-clause-tasks g c = (ap (λ (o : Opening). o.tasks) c.in-Task.ensures.door.opening ∙ c.requires.tasks.0, c.requires.tasks.1)

pub do_task-requires-clause-owns : goal.do_task-requires-clause-owns
do_task-requires-clause-owns g c = λ lone. c.requires.owns (sym c.in-Task.ensures.door.alone ∙ lone)

pub do_task-requires-clause-begun : goal.do_task-requires-clause-begun
do_task-requires-clause-begun g c =
    let x = g.D.Door.view c.args.door.now in
    begun_as c.in-Task.ensures.door (claims_as {o = x.opening} {n = x.number} {a = x.alone} c.child-child.ensures c.in-Task.ensures.claims).0

pub returns-in-Task-clause-worked : goal.returns-in-Task-clause-worked
returns-in-Task-clause-worked g c =
    let x = g.D.Door.view c.args.door.now in
    let owns = g.W.Way.owns c.args.way.now in
    let child = g.W.Way.serves c.args.way.now in
    let mid = (g.D.Door.view c.claim.new.door).seen in
    let new = (g.D.Door.view c.do_task.new.door).seen in
    let before = g.W.Way.wired c.args.way.now mid in
    let after = g.W.Way.wired c.do_task.new.way new in
    let claims = claims_as {o = x.opening} {n = x.number} {a = x.alone} c.child-child.ensures c.in-Task.ensures.claims in
    let tells = g.K.Desk.told c.args.desk.now in
    let tells' = g.K.Desk.told c.do_task.new.desk in
    worked_one x.opening c.args.setup.now owns x.number x.alone child (g.W.Way.wired c.args.way.now) (g.met.W.Way.apart c.args.way.now) c.in-Task.turn x.seen mid new after tells tells'
    claims.0 claims.1
    (named (λ (q : Opening) (m : ℕ) (l : Bool) (e : ℕ) (u : Bool). TurnDone q c.args.setup.now u m l e c.in-Task.turn mid new before after tells tells')
    c.in-Task.ensures.door.opening c.in-Task.ensures.door.number c.in-Task.ensures.door.alone refl refl c.do_task.ensures.does)

pub returns-in-Task-clause-on : goal.returns-in-Task-clause-on
returns-in-Task-clause-on g c =
    let x = g.D.Door.view c.args.door.now in
    let claims = claims_as {o = x.opening} {n = x.number} {a = x.alone} c.child-child.ensures c.in-Task.ensures.claims in
    fewer_behind x.opening x.seen (g.D.Door.view c.claim.new.door).seen (g.D.Door.view c.do_task.new.door).seen c.do_task.ensures.does.did.moved.more claims.0 claims.1 c.do_task.ensures.does.did.moved.is
    (legal_as (c.do_task.ensures.door.opening ∙ c.in-Task.ensures.door.opening) c.do_task.ensures.can.serves.legal)

pub returns-in-Task-clause-door : goal.returns-in-Task-clause-door
returns-in-Task-clause-door g c = same_both c.in-Task.ensures.door c.do_task.ensures.door

pub returns-in-Wait-clause-worked : goal.returns-in-Wait-clause-worked
returns-in-Wait-clause-worked g c =
    let x = g.D.Door.view c.args.door.now in
    worked_still x.opening c.args.setup.now (g.W.Way.owns c.args.way.now) x.number x.alone (g.W.Way.serves c.args.way.now)
    (g.W.Way.wired c.args.way.now) (g.met.W.Way.apart c.args.way.now) x.seen (g.D.Door.view c.claim.new.door).seen
    (g.K.Desk.told c.args.desk.now) c.in-Wait.ensures.claims.0

pub returns-in-Wait-clause-can : goal.returns-in-Wait-clause-can
returns-in-Wait-clause-can g c =
    let x = g.D.Door.view c.args.door.now in
    let s = c.in-Wait.ensures.claims.0 in
    let d = c.in-Wait.ensures.door in
    record {
      serves = can_as d.opening refl (can_on x.seen s.others s.is (legal_as d.opening (d.legal c.requires.can.serves.legal)) c.requires.can.serves);
      rests = λ lone.
          (let before = sym d.alone ∙ lone in
          subst (NoneAtWork (g.W.Way.serves c.args.way.now)) (sym (still_alone before s)) (c.requires.can.rests before));
    }

pub returns-in-Wait-clause-on : goal.returns-in-Wait-clause-on
returns-in-Wait-clause-on g c = held_as c.child-child.ensures c.in-Wait.ensures.claims.1

pub returns-in-Over-clause-worked : goal.returns-in-Over-clause-worked
returns-in-Over-clause-worked g c =
    let x = g.D.Door.view c.args.door.now in
    worked_still x.opening c.args.setup.now (g.W.Way.owns c.args.way.now) x.number x.alone (g.W.Way.serves c.args.way.now)
    (g.W.Way.wired c.args.way.now) (g.met.W.Way.apart c.args.way.now) x.seen (g.D.Door.view c.claim.new.door).seen
    (g.K.Desk.told c.args.desk.now) c.in-Over.ensures.claims.0

pub returns-in-Over-clause-can : goal.returns-in-Over-clause-can
returns-in-Over-clause-can g c =
    let x = g.D.Door.view c.args.door.now in
    let s = c.in-Over.ensures.claims.0 in
    let d = c.in-Over.ensures.door in
    record {
      serves = can_as d.opening refl (can_on x.seen s.others s.is (legal_as d.opening (d.legal c.requires.can.serves.legal)) c.requires.can.serves);
      rests = λ lone.
          (let before = sym d.alone ∙ lone in
          subst (NoneAtWork (g.W.Way.serves c.args.way.now)) (sym (still_alone before s)) (c.requires.can.rests before));
    }

pub returns-in-Over-clause-on : goal.returns-in-Over-clause-on
returns-in-Over-clause-on g c = through_as {o = (g.D.Door.view c.args.door.now).opening} (g.D.Door.view c.claim.new.door).seen refl c.child-child.ensures c.in-Over.ensures.claims.1
