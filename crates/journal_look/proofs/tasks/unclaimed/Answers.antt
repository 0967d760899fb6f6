use Rattle.std.proofs.Common.{◌∙◌, ◌+◌, ◌-◌, ℕ, ap, length, not}
use Rattle.std.specs.Prelude.{filter}
use Rattle.std.specs.List.{range_with_len}
use Rattle.journal_model.specs.Legality.{is_claimed}
use Rattle.journal_look.proofs.Marking.{counted_from, not_unclaimed}
use Rattle.journal_look.proofs.tasks.unclaimed.Goals as goal

pub returns : goal.returns
returns c =
    let o = c.args.opening.now in
    let past = c.args.journal.now.entries in
    c.count_unclaimed.ensures
    ∙ ap (λ (n : ℕ). length (filter (λ t. not (is_claimed past t)) (range_with_len c.args.from (n + 1 - c.args.from)))) c.task_count.ensures
    ∙ counted_from (λ t. not (is_claimed past t)) (length o.tasks) c.args.from c.requires.some (λ u some below. not_unclaimed past u (c.requires.claimed.each u some below))
