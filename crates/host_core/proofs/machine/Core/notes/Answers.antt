use Rattle.std.proofs.Common.{◌≡◌, subst}
use Rattle.host_core.specs.Books.{notes_after}
use Rattle.host_core.specs.CoreValue.{CoreValue}
use Rattle.host_core.proofs.machine.Core.notes.Goals as goal

pub returns-clause-given : goal.returns-clause-given
returns-clause-given c = subst (λ (v : CoreValue). v.notes ≡ notes_after v.opening v.journal) c.self.view_is c.self.invariant.5.given
