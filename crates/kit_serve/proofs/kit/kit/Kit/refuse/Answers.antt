use Rattle.std.proofs.Common.{ap, ◌∙◌}
use Rattle.annex_model.specs.Lines.{has_newline}
use Rattle.annex_model.specs.Messages.{RemoteMessage, remote_line}
use Rattle.wire_msg.specs.Shown.{host_shown}
use Rattle.kit_serve.specs.declared.kit.call.Said.TheVariants.{Failure}
use Rattle.kit_serve.proofs.KitLemmas.Endless.{final_free}
use Rattle.kit_serve.proofs.kit.kit.Kit.refuse.Goals as goal

pub say-requires-clause-line : goal.say-requires-clause-line
say-requires-clause-line g c =
    ap (λ (m : RemoteMessage). has_newline (remote_line m)) c.failed.ensures.line
    ∙ final_free (host_shown c.args.request) (Failure c.args.text.now) c.requires.lines c.requires.text
