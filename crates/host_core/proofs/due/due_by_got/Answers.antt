use Rattle.std.proofs.Common.{◌≡◌, subst, Option, List, ℕ}
use Rattle.std.specs.Prelude.{IfOk}
use Rattle.host_core.specs.Moves.{dues, due_from}
use Rattle.host_core.specs.Settings.{is_reply, serves}
use Rattle.host_core.proofs.due.due_by_got.Goals as goal

pub returns-clause-due : goal.returns-clause-due
returns-clause-due c =
    let past = c.args.past.journal.now.entries in
    let P : Option ℕ × List ℕ → Type 0 = λ p. IfOk c.due_from.result (λ due. dues past due ≡ due_from c.args.past.opening.now past c.args.child c.args.line.now p) in
    subst P c.addressed-job.ensures c.due_from.ensures.due

pub returns-clause-reply : goal.returns-clause-reply
returns-clause-reply c =
    let past = c.args.past.journal.now.entries in
    let P : Option ℕ × List ℕ → Type 0 = λ p. IfOk c.due_from.result (λ due. is_reply due ≡ serves past c.args.child p) in
    subst P c.addressed-job.ensures c.due_from.ensures.reply
