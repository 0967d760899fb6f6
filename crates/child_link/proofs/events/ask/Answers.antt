use Rattle.std.proofs.Common.{sym, subst}
use Rattle.host_talk.specs.Request.Requests.{message_of, name_of}
use Rattle.child_link.specs.Events.{IsAsked}
use Rattle.child_link.specs.declared.events.Asked.{Asked}
use Rattle.child_link.proofs.Replying.{asked_so}
use Rattle.child_link.proofs.events.ask.Goals as goal

pub returns-clause-asked : goal.returns-clause-asked
returns-clause-asked g c =
    let o = (g.D.Door.view c.args.door.now).opening in
    let n = (g.D.Door.view c.args.door.now).number in
    subst (λ (x : Asked). IsAsked o n (g.D.Door.view c.args.door.now).alone (g.D.Door.view c.args.door.now).seen (g.D.Door.view c.step.new.door).seen c.args.child c.args.task (name_of c.args.request) (message_of c.args.request) x) (sym c.asked_of.ensures)
    (asked_so c.args.child c.args.task c.args.request c.in_ok-reply.ensures.stepped)
