use Rattle.wire_msg.specs.Shown.{remote_shown}
use Rattle.host_talk.proofs.RequestLemmas.Staging.{follows_behind}
use Rattle.host_talk.proofs.request.talk.Talk.after.Goals as goal

pub returns-clause-follows : goal.returns-clause-follows
returns-clause-follows c = λ ms waits. rw c.stage_behind.ensures (follows_behind c.args.request ms (remote_shown c.args.last.now) waits)
