use Rattle.std.proofs.Common.{◌∙◌, ◌+◌, ◌-◌, ap, ℕ, length}
use Rattle.std.specs.List.{list_all, range_with_len}
use Rattle.journal_model.specs.Legality.{is_claimed}
use Rattle.journal_look.proofs.Marking.{all_from}
use Rattle.journal_look.proofs.tasks.are_all_claimed.Goals as goal

pub returns : goal.returns
returns c =
    let o = c.args.opening.now in
    let past = c.args.journal.now.entries in
    c.all_claimed.ensures
    ∙ ap (λ (n : ℕ). list_all (is_claimed past) (range_with_len c.args.from (n + 1 - c.args.from))) c.task_count.ensures
    ∙ all_from (is_claimed past) (length o.tasks) c.args.from c.requires.some c.requires.claimed.each
