use Rattle.std.proofs.Common.{◌≡◌, ◌∙◌, refl, sym, true}
use Rattle.annex_model.specs.Talks.{is_aside, said}
use Rattle.wire_msg.specs.Shown.{remote_shown}
use Rattle.host_talk.specs.Request.Requests.{message_of}
use Rattle.journal_model.specs.Parts.{part}
use Rattle.host_core.proofs.Opened.{heard_in}
use Rattle.host_core.proofs.talks.hear.Goals as goal

pub returns-then-is_aside : goal.returns-then-is_aside
returns-then-is_aside c =
    let aside : is_aside (remote_shown c.args.message.now) ≡ true = sym c.is_aside.ensures ∙ c.if-is_aside.true in
    rw aside refl

pub returns : goal.returns
returns c =
    let p = part c.args.journal.now.entries c.args.child c.args.job in
    c.heard.ensures (said p) c.in_ok-talk.ensures.follows
    ∙ heard_in p (remote_shown c.args.message.now) (message_of c.in_ok-talk.talk.request) c.in_ok-talk.ensures.request
