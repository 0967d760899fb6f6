use Rattle.std.proofs.Common.{ap, ◌∙◌}
use Rattle.child_link.specs.Replies.{settled_as}
use Rattle.child_link.proofs.Replying.{passed_by, says_now, lookup_none, lookup_verdict, asked_then}
use Rattle.child_link.proofs.events.verdict.Goals as goal

pub returns-clause-passed : goal.returns-clause-passed
returns-clause-passed g c =
    let o = (g.D.Door.view c.args.door.now).opening in
    let n = (g.D.Door.view c.args.door.now).number in
    passed_by c.make.ensures.made (lookup_none o n c.args.child c.args.job)

pub returns-clause-verdict : goal.returns-clause-verdict
returns-clause-verdict g c =
    let o = (g.D.Door.view c.args.door.now).opening in
    let n = (g.D.Door.view c.args.door.now).number in
    let m = c.make.ensures.made in
    let says = says_now m (lookup_none o n c.args.child c.args.job) in
    c.settled_as.ensures ∙ ap settled_as says.1
    ∙ lookup_verdict o (g.D.Door.view c.make.new.door).seen n c.args.child c.args.job (asked_then c.args.child c.args.job (passed_by m (lookup_none o n c.args.child c.args.job)) c.requires.asked)
