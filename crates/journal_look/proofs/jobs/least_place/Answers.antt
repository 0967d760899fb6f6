use Rattle.std.proofs.Common.{◌∙◌, sym, inr}
use Rattle.journal_look.proofs.Ending.{none_due}
use Rattle.journal_look.proofs.jobs.least_place.Goals as goal

pub returns-then-are_from-clause-none : goal.returns-then-are_from-clause-none
returns-then-are_from-clause-none c past are at child unsent low =
    none_due past c.args.jobs.now c.first_place-place.result at child unsent are (inr (sym c.are_from.ensures ∙ c.if-are_from.true)) low
