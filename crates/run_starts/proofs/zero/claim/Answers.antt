use Rattle.std.proofs.Common.{Option, sym, subst}
use Rattle.task_model.specs.declared.turn.TaskTurn.{TaskTurn}
use Rattle.run_starts.specs.Stints.{ClaimsZero}
use Rattle.run_starts.proofs.Zeros.{claims_zero}
use Rattle.run_starts.proofs.zero.claim.Goals as goal

pub returns-clause-claims : goal.returns-clause-claims
returns-clause-claims c =
    let o = c.args.core.now.opening in
    let old = c.args.core.now.journal in
    let new = c.step.new.self.journal in
    subst (λ (r : Option TaskTurn). ClaimsZero o old new r) (sym c.task_in.ensures)
    (claims_zero o old new c.requires.rest c.in-Ok.reply c.in-Ok.ensures.reply c.in-Ok.ensures.journal)
