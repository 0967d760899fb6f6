use Rattle.std.proofs.Common.{sym, subst}
use Rattle.child_link.specs.Events.{IsFetched}
use Rattle.child_link.specs.declared.events.Fetched.{Fetched}
use Rattle.child_link.proofs.Replying.{passed_by, says_now, fetch_none, fetched_so, started_then}
use Rattle.child_link.proofs.events.fetch.Goals as goal

pub returns-clause-passed : goal.returns-clause-passed
returns-clause-passed g c =
    let o = (g.D.Door.view c.args.door.now).opening in
    let n = (g.D.Door.view c.args.door.now).number in
    passed_by c.in_ok-reply.ensures.stepped (fetch_none o n c.args.child)

pub returns-clause-line : goal.returns-clause-line
returns-clause-line g c =
    let o = (g.D.Door.view c.args.door.now).opening in
    let n = (g.D.Door.view c.args.door.now).number in
    let m = c.in_ok-reply.ensures.stepped in
    let says = says_now m (fetch_none o n c.args.child) in
    subst (λ (f : Fetched). IsFetched o n (g.D.Door.view c.step.new.door).seen c.args.child f) (sym c.fetched_of.ensures)
    (fetched_so o (g.D.Door.view c.step.new.door).seen n c.args.child says.0 (started_then c.args.child (passed_by m (fetch_none o n c.args.child)) c.requires.started) c.in_ok-reply.reply says.1)
