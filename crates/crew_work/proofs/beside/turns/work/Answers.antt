use Rattle.std.proofs.Common.{◌≡◌, ◌∙◌, refl, sym, ap, subst, true, false}
use Rattle.journal_model.specs.declared.opening.Opening.{Opening}
use Rattle.child_link.proofs.Replying.{waits_as}
use Rattle.child_link.proofs.Roles.{rested, same_both}
use Rattle.crew_work.specs.Worker.Works.{CanServe, WorkedAt}
use Rattle.crew_work.proofs.WorkerLemmas.Turning.{passed_none, through_as, worked_still, worked_then}
use Rattle.crew_work.proofs.beside.turns.work.Goals as goal

pub loop-init : goal.loop-init
loop-init g c =
    let x = g.D.Door.view c.args.door.now in
    record {
      can = tt;
      finite = tt;
      worked =
          worked_still x.opening c.args.setup.now (g.W.Way.owns c.args.way.now) x.number x.alone (g.W.Way.serves c.args.way.now)
          (g.W.Way.wired c.args.way.now) (g.met.W.Way.apart c.args.way.now) x.seen x.seen (g.K.Desk.told c.args.desk.now) (passed_none x.number x.alone x.seen);
      serves = c.requires.can;
      way = (refl, refl, g.met.W.Way.still c.args.way.now);
      door = record { opening = refl; number = refl; alone = refl; loans = refl; home = refl; legal = λ h. h };
    }

pub take_turn-requires-clause-tasks : goal.take_turn-requires-clause-tasks
take_turn-requires-clause-tasks g c = (ap (λ (o : Opening). o.tasks) c.loop.invariant.door.opening ∙ c.requires.tasks.0, c.requires.tasks.1)

pub take_turn-requires-clause-owns : goal.take_turn-requires-clause-owns
take_turn-requires-clause-owns g c = λ lone. absurd (let bad : true ≡ false = sym lone ∙ c.loop.invariant.door.alone ∙ c.requires.shared in cc)

pub take_turn-requires-clause-can : goal.take_turn-requires-clause-can
take_turn-requires-clause-can g c = record {
  serves = c.loop.invariant.serves;
  rests = λ lone. absurd (let bad : true ≡ false = sym lone ∙ c.loop.invariant.door.alone ∙ c.requires.shared in cc);
}

pub loop-preserved-in-Again : goal.loop-preserved-in-Again
loop-preserved-in-Again g c =
    let i = c.loop.invariant in
    record {
      can = tt;
      finite = tt;
      worked =
          worked_then i.door.opening i.door.number i.door.alone i.way.0 i.way.1 c.args.setup.now (g.D.Door.view c.args.door.now).seen (g.D.Door.view c.loop.door).seen (g.D.Door.view c.take_turn.new.door).seen
          (g.W.Way.wired c.args.way.now (g.D.Door.view c.args.door.now).seen) (g.W.Way.wired c.loop.way (g.D.Door.view c.loop.door).seen) (g.W.Way.wired c.take_turn.new.way (g.D.Door.view c.take_turn.new.door).seen)
          (g.K.Desk.told c.args.desk.now) (g.K.Desk.told c.loop.desk) (g.K.Desk.told c.take_turn.new.desk) i.worked c.in-Again.ensures.worked;
      serves = c.in-Again.ensures.can.serves;
      way = (c.in-Again.ensures.way.0 ∙ i.way.0, c.in-Again.ensures.way.1 ∙ i.way.1, g.met.W.Way.both c.args.way.now c.loop.way c.take_turn.new.way i.way.2 c.in-Again.ensures.way.2);
      door = same_both i.door c.in-Again.ensures.door;
    }

pub rest-requires : goal.rest-requires
rest-requires g c = record { waits = waits_as c.in-Rest.ensures.door.opening c.in-Rest.ensures.door.number c.in-Rest.ensures.on.waits }

-- after the turn, by the door that rested
pub loop-preserved : goal.loop-preserved
loop-preserved g c =
    let i = c.loop.invariant in
    let x = g.D.Door.view c.args.door.now in
    let r = c.rest.ensures in
    let way = g.W.Way.wired c.take_turn.new.way in
    record {
      can = tt;
      finite = tt;
      worked =
          subst (λ y. WorkedAt c.args.setup.now (g.W.Way.owns c.args.way.now) (g.W.Way.serves c.args.way.now) x y (g.W.Way.wired c.args.way.now) way (g.K.Desk.told c.args.desk.now) (g.K.Desk.told c.take_turn.new.desk)) (sym r)
          (worked_then i.door.opening i.door.number i.door.alone i.way.0 i.way.1 c.args.setup.now x.seen (g.D.Door.view c.loop.door).seen (g.D.Door.view c.take_turn.new.door).seen
          (g.W.Way.wired c.args.way.now x.seen) (g.W.Way.wired c.loop.way (g.D.Door.view c.loop.door).seen) (way (g.D.Door.view c.take_turn.new.door).seen)
          (g.K.Desk.told c.args.desk.now) (g.K.Desk.told c.loop.desk) (g.K.Desk.told c.take_turn.new.desk) i.worked c.in-Rest.ensures.worked);
      serves = subst (λ y. CanServe y.opening (g.W.Way.serves c.take_turn.new.way) y.seen) (sym r) c.in-Rest.ensures.can.serves;
      way = (c.in-Rest.ensures.way.0 ∙ i.way.0, c.in-Rest.ensures.way.1 ∙ i.way.1, g.met.W.Way.both c.args.way.now c.loop.way c.take_turn.new.way i.way.2 c.in-Rest.ensures.way.2);
      door = rested r (same_both i.door c.in-Rest.ensures.door);
    }

pub returns-in-Over-clause-worked : goal.returns-in-Over-clause-worked
returns-in-Over-clause-worked g c =
    let i = c.loop.invariant in
    worked_then i.door.opening i.door.number i.door.alone i.way.0 i.way.1 c.args.setup.now (g.D.Door.view c.args.door.now).seen (g.D.Door.view c.loop.door).seen (g.D.Door.view c.take_turn.new.door).seen
    (g.W.Way.wired c.args.way.now (g.D.Door.view c.args.door.now).seen) (g.W.Way.wired c.loop.way (g.D.Door.view c.loop.door).seen) (g.W.Way.wired c.take_turn.new.way (g.D.Door.view c.take_turn.new.door).seen)
    (g.K.Desk.told c.args.desk.now) (g.K.Desk.told c.loop.desk) (g.K.Desk.told c.take_turn.new.desk) i.worked c.in-Over.ensures.worked

pub returns-in-Over-clause-can : goal.returns-in-Over-clause-can
returns-in-Over-clause-can g c = c.in-Over.ensures.can.serves

pub returns-in-Over-clause-through : goal.returns-in-Over-clause-through
returns-in-Over-clause-through g c = through_as (g.D.Door.view c.take_turn.new.door).seen c.loop.invariant.door.opening c.loop.invariant.way.0 c.in-Over.ensures.on

pub returns-in-Over-clause-way : goal.returns-in-Over-clause-way
returns-in-Over-clause-way g c =
    let i = c.loop.invariant in
    (c.in-Over.ensures.way.0 ∙ i.way.0, c.in-Over.ensures.way.1 ∙ i.way.1, g.met.W.Way.both c.args.way.now c.loop.way c.take_turn.new.way i.way.2 c.in-Over.ensures.way.2)

pub returns-in-Over-clause-door : goal.returns-in-Over-clause-door
returns-in-Over-clause-door g c = same_both c.loop.invariant.door c.in-Over.ensures.door
