use Rattle.std.proofs.Common.{sym}
use Rattle.journal_model.specs.Parts.{item_at}
use Rattle.host_core.proofs.Replaying.{aside_there, plain_there, said_none}
use Rattle.host_core.proofs.talks.line_said.Goals as goal
use Rattle.host_core.proofs.talks.line_said.Goals.{in_default-via-in-Some+else-not-is_aside_line, in_default-via-in_default}

pub returns-in-Some : goal.returns-in-Some
returns-in-Some c =
    plain_there c.args.journal.now.entries c.args.child c.args.job c.args.at c.in-Some.text.now c.in-Some.ensures (sym c.if-not-is_aside_line.ensures)

pub returns-in_default : goal.returns-in_default
returns-in_default c =
    let past = c.args.journal.now.entries in
    elim c.in_default.branch [
      | in_default-via-in-Some+else-not-is_aside_line w ↦
          aside_there past c.args.child c.args.job c.args.at w.in-Some.text.now w.in-Some.ensures (sym w.if-not-is_aside_line.ensures)
      | in_default-via-in_default w ↦ said_none (item_at past c.args.child c.args.job c.args.at) w.in_default.ensures
    ]
