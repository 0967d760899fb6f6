use Rattle.std.proofs.Common.{◌≡◌, ◌∙◌, ℕ, List, ap, set, min}
use Rattle.task_queue.specs.Groups.{number_at}
use Rattle.task_queue.proofs.Keeping.{reopened_kept}
use Rattle.task_queue.proofs.handing.reopen.Goals as goal

pub returns-clause-kept : goal.returns-clause-kept
returns-clause-kept c = λ claimed within are. (
    let g = c.args.groups.now in
    let groups = g.of.items in
    let task = c.args.task in
    let group : c.number_at-group.result ≡ number_at groups task = c.number_at-group.ensures ∙ ap (λ (l : List ℕ). number_at l task) c.deref.ensures.value in
    let first : c.number_at-first.result ≡ number_at g.firsts.items (number_at groups task) =
    c.number_at-first.ensures ∙ ap (λ (l : List ℕ). number_at l c.number_at-group.result) c.deref-2.ensures.value ∙ ap (number_at g.firsts.items) group in
    let lower : c.min.result ≡ min (number_at g.firsts.items (number_at groups task)) task = c.min.ensures ∙ ap (λ (n : ℕ). min n task) first in
    reopened_kept g c.put_number.new.numbers claimed task within
    (c.put_number.ensures ∙ ap (λ (k : ℕ). set g.firsts.items k c.min.result) group ∙ ap (set g.firsts.items (number_at groups task)) lower) are
    )
