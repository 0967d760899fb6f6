use Rattle.std.proofs.Common.{◌∙◌, ap, length}
use Rattle.host_core.specs.CoreValue.{CoreValue}
use Rattle.host_core.specs.Steps.{unclaimed}
use Rattle.host_core.proofs.machine.Core.unclaimed.Goals as goal

pub returns : goal.returns
returns c = c.unclaimed.ensures ∙ ap (λ (v : CoreValue). length (unclaimed v.opening v.journal)) c.self.view_is
