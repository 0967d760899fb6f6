use Rattle.std.proofs.Common.{◌≡◌, ◌∙◌, sym, ap, true, Bool}
use Rattle.std.specs.Prelude.{◌&&◌}
use Rattle.annex_model.specs.Talks.{is_aside}
use Rattle.annex_model.specs.Hearings.{hearing}
use Rattle.wire_msg.specs.Shown.{remote_shown}
use Rattle.journal_model.specs.Journal.{is_open}
use Rattle.journal_model.specs.Parts.{part}
use Rattle.host_core.proofs.Answered.{aside_is, if_ok}
use Rattle.host_core.proofs.due.after_message.Goals as goal

pub returns-clause-reply : goal.returns-clause-reply
returns-clause-reply c =
    let past = c.args.past.journal.now.entries in
    let p = part past c.args.child c.args.job in
    let m = remote_shown c.args.message.now in
    let opened : is_open past c.args.child c.args.job ≡ true = sym c.is_open.ensures ∙ c.if-not-is_open.false in
    if_ok c.after_hearing.result _ _
    (λ due known. known (hearing p m) c.in_ok-heard.ensures ∙ aside_is p m ∙ sym (ap (λ (b : Bool). b && is_aside m) opened)) c.after_hearing.ensures.reply
