use Rattle.std.proofs.Common.{refl, sym, ap, ◌∙◌, true, false, ◌≡◌}
use Rattle.journal_model.specs.declared.opening.Opening.{Opening}
use Rattle.child_link.specs.Writings.{LoneWired}
use Rattle.child_link.proofs.Roles.{same_both}
use Rattle.crew_work.specs.Worker.WayLaws.{link_stays, links_both}
use Rattle.crew_work.proofs.WorkerLemmas.Turning.{alone_keeps, alone_worked, passed_none, through_as, worked_still, worked_then}
use Rattle.crew_work.proofs.worker.turns.work_alone.Goals as goal

pub turns-init : goal.turns-init
turns-init g c =
    let x = g.D.Door.view c.args.door.now in
    let link = c.args.link.now in
    record {
      worked =
          worked_still x.opening c.args.setup.now true x.number x.alone link.ear.child (λ j. LoneWired j link.ear link.mouth) (λ past more none w. link_stays past more link.ear link.mouth link.one_child none w)
          x.seen x.seen (g.K.Desk.told c.args.desk.now) (passed_none x.number x.alone x.seen);
      can = record { serves = c.requires.can.serves; rests = λ lone. c.requires.can.rests };
      same = ((refl, refl), (refl, refl));
      door = record { opening = refl; number = refl; alone = refl; loans = refl; home = refl; legal = λ h. h };
    }

pub take_turn-requires-clause-tasks : goal.take_turn-requires-clause-tasks
take_turn-requires-clause-tasks g c = (ap (λ (o : Opening). o.tasks) c.turns.invariant.door.opening ∙ c.requires.tasks.0, c.requires.tasks.1)

pub turns-preserved : goal.turns-preserved
turns-preserved g c =
    let i = c.turns.invariant in
    record {
      worked =
          worked_then i.door.opening i.door.number i.door.alone i.same.0.0 refl c.args.setup.now (g.D.Door.view c.args.door.now).seen (g.D.Door.view c.turns.door).seen (g.D.Door.view c.take_turn.new.door).seen
          (LoneWired (g.D.Door.view c.args.door.now).seen c.args.link.now.ear c.args.link.now.mouth) (LoneWired (g.D.Door.view c.turns.door).seen c.turns.link.ear c.turns.link.mouth)
          (LoneWired (g.D.Door.view c.take_turn.new.door).seen c.take_turn.new.way.ear c.take_turn.new.way.mouth)
          (g.K.Desk.told c.args.desk.now) (g.K.Desk.told c.turns.desk) (g.K.Desk.told c.take_turn.new.desk) i.worked c.in-Again.ensures.worked;
      can = c.in-Again.ensures.can;
      same = links_both c.args.link.now.ear c.turns.link.ear c.take_turn.new.way.ear c.args.link.now.mouth c.turns.link.mouth c.take_turn.new.way.mouth i.same c.in-Again.ensures.way.2;
      door = same_both i.door c.in-Again.ensures.door;
    }

pub unreachable-requires : goal.unreachable-requires
unreachable-requires g c =
    let bad : true ≡ false = sym (c.turns.invariant.door.alone ∙ c.requires.alone) ∙ c.in-Rest.ensures.on.shared in
    cc

pub returns-in-Over-clause-worked : goal.returns-in-Over-clause-worked
returns-in-Over-clause-worked g c =
    let i = c.turns.invariant in
    alone_worked c.requires.alone
    (worked_then i.door.opening i.door.number i.door.alone i.same.0.0 refl c.args.setup.now (g.D.Door.view c.args.door.now).seen (g.D.Door.view c.turns.door).seen (g.D.Door.view c.take_turn.new.door).seen
    (LoneWired (g.D.Door.view c.args.door.now).seen c.args.link.now.ear c.args.link.now.mouth) (LoneWired (g.D.Door.view c.turns.door).seen c.turns.link.ear c.turns.link.mouth)
    (LoneWired (g.D.Door.view c.take_turn.new.door).seen c.take_turn.new.way.ear c.take_turn.new.way.mouth)
    (g.K.Desk.told c.args.desk.now) (g.K.Desk.told c.turns.desk) (g.K.Desk.told c.take_turn.new.desk) i.worked c.in-Over.ensures.worked)

pub returns-in-Over-clause-can : goal.returns-in-Over-clause-can
returns-in-Over-clause-can g c =
    let i = c.turns.invariant in
    record { serves = c.in-Over.ensures.can.serves; rests = c.in-Over.ensures.can.rests (c.in-Over.ensures.door.alone ∙ i.door.alone ∙ c.requires.alone) }

pub returns-in-Over-clause-through : goal.returns-in-Over-clause-through
returns-in-Over-clause-through g c = through_as (g.D.Door.view c.take_turn.new.door).seen c.turns.invariant.door.opening c.turns.invariant.same.0.0 c.in-Over.ensures.on

pub returns-in-Over-clause-link : goal.returns-in-Over-clause-link
returns-in-Over-clause-link g c =
    let i = c.turns.invariant in
    alone_keeps c.args.link.now.ear c.take_turn.new.way.ear c.args.link.now.mouth c.take_turn.new.way.mouth c.requires.alone
    (links_both c.args.link.now.ear c.turns.link.ear c.take_turn.new.way.ear c.args.link.now.mouth c.turns.link.mouth c.take_turn.new.way.mouth i.same c.in-Over.ensures.way.2)
    (worked_then i.door.opening i.door.number i.door.alone i.same.0.0 refl c.args.setup.now (g.D.Door.view c.args.door.now).seen (g.D.Door.view c.turns.door).seen (g.D.Door.view c.take_turn.new.door).seen
    (LoneWired (g.D.Door.view c.args.door.now).seen c.args.link.now.ear c.args.link.now.mouth) (LoneWired (g.D.Door.view c.turns.door).seen c.turns.link.ear c.turns.link.mouth)
    (LoneWired (g.D.Door.view c.take_turn.new.door).seen c.take_turn.new.way.ear c.take_turn.new.way.mouth)
    (g.K.Desk.told c.args.desk.now) (g.K.Desk.told c.turns.desk) (g.K.Desk.told c.take_turn.new.desk) i.worked c.in-Over.ensures.worked)

pub returns-in-Over-clause-door : goal.returns-in-Over-clause-door
returns-in-Over-clause-door g c = same_both c.turns.invariant.door c.in-Over.ensures.door
