use Rattle.std.proofs.Common.{IsTrue, List, ℕ, sym, ◌∙◌, subst}
use Rattle.annex_model.specs.Messages.{remote_line}
use Rattle.wire_msg.specs.Shown.{remote_shown}
use Rattle.kit_serve.specs.LineSinks.{ends_line}
use Rattle.kit_serve.proofs.WholeLines.{ends_at}
use Rattle.kit_serve.proofs.line_sink.LineSink.tell.Goals as goal

pub say-requires : goal.say-requires
say-requires g c =
    subst (λ (bytes : List ℕ). IsTrue (ends_line bytes)) (sym (c.view.ensures ∙ c.in-Ok.ensures.line)) (ends_at (remote_line (remote_shown c.args.message.now)))
