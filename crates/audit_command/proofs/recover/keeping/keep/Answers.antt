use Rattle.std.proofs.Common.{List, ℕ, Option, Some, sym, subst}
use Rattle.std.specs.Prelude.{IfOk}
use Rattle.audit_command.specs.Recoveries.{IsKeptBy, IsRestored}
use Rattle.audit_command.proofs.recover.keeping.keep.Goals as goal

pub returns-in-Some-clause-kept : goal.returns-in-Some-clause-kept
returns-in-Some-clause-kept g c =
    let told = (g.D.Desk.told c.args.desk.now).files in
    let table = g.D.Desk.told c.restore.new.desk in
    let core = c.args.core.now in
    let kept = subst (λ (name : List ℕ). IfOk c.restore.result (λ end. IsRestored name told table core.opening core.journal end)) c.view.ensures c.restore.ensures.restored in
    subst (λ (name : Option (List ℕ)). IfOk c.restore.result (λ end. IsKeptBy name told table core.opening core.journal end)) (sym c.in-Some.is) kept
