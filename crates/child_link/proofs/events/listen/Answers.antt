use Rattle.std.proofs.Common.{sym, subst}
use Rattle.child_link.specs.Events.{IsListening}
use Rattle.child_link.specs.declared.events.Listening.{Listening}
use Rattle.child_link.proofs.Replying.{passed_by, says_now, listen_none, heard_so, started_then}
use Rattle.child_link.proofs.events.listen.Goals as goal

pub returns-clause-passed : goal.returns-clause-passed
returns-clause-passed g c =
    let o = (g.D.Door.view c.args.door.now).opening in
    let n = (g.D.Door.view c.args.door.now).number in
    passed_by c.make.ensures.made (listen_none o n c.args.child)

pub returns-clause-listening : goal.returns-clause-listening
returns-clause-listening g c =
    let o = (g.D.Door.view c.args.door.now).opening in
    let n = (g.D.Door.view c.args.door.now).number in
    let m = c.make.ensures.made in
    let says = says_now m (listen_none o n c.args.child) in
    subst (λ (l : Listening). IsListening o n (g.D.Door.view c.make.new.door).seen c.args.child l) (sym c.listening_of.ensures)
    (heard_so o (g.D.Door.view c.make.new.door).seen n c.args.child says.0 (started_then c.args.child (passed_by m (listen_none o n c.args.child)) c.requires.started) c.make.result says.1)
