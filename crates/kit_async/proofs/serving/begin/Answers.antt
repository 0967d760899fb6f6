use Rattle.std.proofs.Common.{◌∙◌, arith}
use Rattle.kit_async.proofs.Gathered.{version_legal}
use Rattle.kit_async.proofs.Returned.{fresh_from}
use Rattle.kit_async.proofs.serving.begin.Goals as goal

pub returns-in-Ok-clause-fresh : goal.returns-in-Ok-clause-fresh
returns-in-Ok-clause-fresh c =
    let b = c.in-Ok.ensures in
    let h = c.in-Ok.begun.0 in
    fresh_from h 1 c.in-Ok.begun.1.items (version_legal h.fixed h.start (b.hall.1 ∙ c.in_ok-core.ensures.journal)) b.passes.1
    (λ k p there. (let it = b.fresh k p there in ((let is = it.0 in omega (arith, is)), it.1)))
