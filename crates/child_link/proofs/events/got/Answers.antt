use Rattle.std.proofs.Common.{sym, subst, Bool}
use Rattle.child_link.specs.Doors.{Takes}
use Rattle.child_link.proofs.Replying.{got_so}
use Rattle.child_link.proofs.events.got.Goals as goal

pub returns-clause-ok : goal.returns-clause-ok
returns-clause-ok g c =
    let o = (g.D.Door.view c.args.door.now).opening in
    let n = (g.D.Door.view c.args.door.now).number in
    subst (λ (b : Bool). Takes o n (g.D.Door.view c.args.door.now).alone (g.D.Door.view c.args.door.now).seen (g.D.Door.view c.step.new.door).seen c.args.child c.args.line b) (sym c.is_done.ensures)
    (got_so c.args.child c.args.line c.requires.started c.requires.line c.in_ok-reply.ensures.stepped)
