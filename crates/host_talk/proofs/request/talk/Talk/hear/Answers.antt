use Rattle.std.proofs.Common.{◌∙◌}
use Rattle.wire_msg.specs.Shown.{remote_shown}
use Rattle.host_talk.proofs.RequestLemmas.Staging.{heard_behind, fields_go_on}
use Rattle.host_talk.proofs.request.talk.Talk.hear.Goals as goal

pub returns-clause-answer : goal.returns-clause-answer
returns-clause-answer c = λ ms follows live. c.heard-heard.ensures ∙ heard_behind c.args.self.now ms (remote_shown c.args.message.now) follows live

pub returns-clause-goes_on : goal.returns-clause-goes_on
returns-clause-goes_on c = λ ms follows taken.
    fields_go_on c.args.self.now c.self.inside.request c.self.inside.stage c.stage_after-self-inside.result ms (remote_shown c.args.message.now) c.heard-heard.result
    c.self.view_is c.heard-heard.ensures c.stage_after-self-inside.ensures follows taken
