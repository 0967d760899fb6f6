use Rattle.std.proofs.Common.{ap, sym, ◌∙◌, ◌≡◌, Some}
use Rattle.wire_msg.specs.Shown.{host_shown}
use Rattle.kit_serve.specs.declared.kit.call.Said.{Said}
use Rattle.kit_serve.specs.Kit.Kits.{final_line}
use Rattle.kit_serve.proofs.KitLemmas.Settings.{set_answers}
use Rattle.kit_serve.proofs.kit.finals.final_message.Goals as goal

pub returns-in-Set-clause-line : goal.returns-in-Set-clause-line
returns-in-Set-clause-line c =
    c.done-in-Set.ensures.line ∙ set_answers (host_shown c.args.request) c.in-Set.field-0 ∙ ap (λ (said : Said). final_line (Some (host_shown c.args.request)) said) (sym c.in-Set.is)
