use Rattle.std.proofs.Common.{List, subst, sym}
use Rattle.journal_look.specs.declared.jobs.Told.{Told}
use Rattle.journal_look.specs.Opens.{AreTold}
use Rattle.journal_look.proofs.Opening.{if_some}
use Rattle.journal_look.proofs.jobs.told_of.Goals as goal

pub returns : goal.returns
returns c past are = if_some c.told_in.result c.told_in.ensures (λ v h. h past (subst (λ (l : List Told). AreTold past l) (sym c.as_slice.ensures.value) (are.told c.if-not-jobs.false)))
