use Rattle.std.proofs.Common.{◌≡◌, ◌∙◌, ap, true}
use Rattle.std.specs.Prelude.{◌&&◌}
use Rattle.annex_model.specs.Messages.{HostMessage, is_askable}
use Rattle.journal_model.specs.Journal.{is_started}
use Rattle.journal_model.specs.Legality.{may_ask, is_in_turn}
use Rattle.host_talk.specs.Request.Requests.{message_of}
use Rattle.host_core.specs.Steps.{next_job}
use Rattle.host_core.proofs.moves.ask_next.Goals as goal
use Rattle.ann_key.proofs.Booleans.{and_last as and_right}

pub line_of-requires : goal.line_of-requires
line_of-requires c =
    let past = c.args.journal.now.entries in
    let child = c.args.child in
    let q = message_of c.args.request.now in
    ap is_askable c.message-message.ensures
    ∙ and_right (is_started past child && may_ask past c.args.by c.args.task child && is_in_turn past child (next_job past child) q) (is_askable q)
    c.requires.may
