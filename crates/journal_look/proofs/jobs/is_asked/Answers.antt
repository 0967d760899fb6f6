use Rattle.std.proofs.Common.{◌≡◌, ℕ, subst, sym}
use Rattle.std.specs.Prelude.{◌==◌, nat_lt}
use Rattle.std.specs.List.{list_any}
use Rattle.journal_model.specs.Journal.{asked_jobs}
use Rattle.journal_look.proofs.Opening.{asked_here}
use Rattle.journal_look.proofs.jobs.is_asked.Goals as goal

pub returns : goal.returns
returns c past are count = subst (λ (n : ℕ). nat_lt c.args.job n ≡ list_any (λ k. k == c.args.job) (asked_jobs past c.args.child)) (sym count) (asked_here past c.args.jobs.now c.args.child c.args.job are)
