use Rattle.std.proofs.Common.{ap, ◌∙◌}
use Rattle.child_link.specs.Replies.{gone_why}
use Rattle.child_link.proofs.Replying.{passed_by, says_now, look_none, look_why, started_then}
use Rattle.child_link.proofs.events.why_ended.Goals as goal

pub returns-clause-passed : goal.returns-clause-passed
returns-clause-passed g c =
    let o = (g.D.Door.view c.args.door.now).opening in
    let n = (g.D.Door.view c.args.door.now).number in
    passed_by c.make.ensures.made (look_none o n c.args.child)

pub returns-clause-why : goal.returns-clause-why
returns-clause-why g c =
    let o = (g.D.Door.view c.args.door.now).opening in
    let n = (g.D.Door.view c.args.door.now).number in
    let m = c.make.ensures.made in
    let says = says_now m (look_none o n c.args.child) in
    c.gone_why.ensures ∙ ap gone_why says.1
    ∙ look_why o (g.D.Door.view c.make.new.door).seen n c.args.child (started_then c.args.child (passed_by m (look_none o n c.args.child)) c.requires.started)
