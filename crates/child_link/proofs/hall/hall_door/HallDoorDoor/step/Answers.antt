use Rattle.child_link.proofs.HallLemmas.Halls.{stepped}
use Rattle.child_link.proofs.hall.hall_door.HallDoorDoor.step.Goals as goal

pub returns-clause-stepped : goal.returns-clause-stepped
returns-clause-stepped g c = stepped c.args.self.now.hall.now c.args.self.now.pass.now c.enter.new.pass c.args.event c.enter.result c.enter.ensures.ok c.enter.ensures.err
