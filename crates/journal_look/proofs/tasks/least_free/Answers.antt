use Rattle.std.proofs.Common.{◌∙◌, ◌+◌, ◌-◌, ap, ℕ, length}
use Rattle.std.specs.Prelude.{find}
use Rattle.std.specs.List.{range_with_len}
use Rattle.journal_model.specs.Legality.{is_free}
use Rattle.journal_look.proofs.Marking.{found_from, claimed_not_free}
use Rattle.journal_look.proofs.tasks.least_free.Goals as goal

pub returns : goal.returns
returns c =
    let o = c.args.opening.now in
    let past = c.args.journal.now.entries in
    c.first_free.ensures
    ∙ ap (λ (n : ℕ). find (is_free o past) (range_with_len c.args.from (n + 1 - c.args.from))) c.task_count.ensures
    ∙ found_from (is_free o past) (length o.tasks) c.args.from c.requires.some (λ u some below. claimed_not_free o past u (c.requires.claimed.each u some below))
