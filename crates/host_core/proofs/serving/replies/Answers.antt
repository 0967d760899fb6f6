use Rattle.std.proofs.Common.{◌∙◌}
use Rattle.wire_msg.specs.Shown.{remote_shown}
use Rattle.host_core.proofs.Answered.{replies_due}
use Rattle.host_core.proofs.serving.replies.Goals as goal

pub returns-clause-due : goal.returns-clause-due
returns-clause-due c =
    replies_due c.args.past.opening.now c.args.past.journal.now.entries c.args.past.registers.now c.args.child c.args.job (remote_shown c.args.message.now)
    c.view.result.now c.in_ok-lines.lines.items c.requires (c.view.ensures ∙ c.in_ok-replies.ensures.replies) c.in_ok-lines.ensures
