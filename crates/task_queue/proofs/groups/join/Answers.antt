use Rattle.std.proofs.Common.{◌≡◌, ◌∙◌, ℕ, List, sym, ap, subst, set}
use Rattle.task_queue.specs.Groups.{AreGroups, AreWithin, number_at}
use Rattle.task_queue.proofs.Grouping.{regrouped}
use Rattle.task_queue.proofs.groups.join.Goals as goal

pub returns : goal.returns
returns c = λ are. (
    let by = c.args.by in
    let o = c.args.opening.now in
    let groups = c.args.groups.now.items in
    let is : c.put_number.new.numbers.items ≡ set groups c.args.other (number_at groups c.args.one) =
    c.put_number.ensures ∙ ap (set groups c.args.other) (c.number_at-group.ensures ∙ ap (λ (l : List ℕ). number_at l c.args.one) c.deref.ensures.value) in
    subst (λ (l : List ℕ). AreGroups by o l × AreWithin l) (sym is)
    (regrouped by o groups c.args.one c.args.other (c.are_alike.ensures c.if-not-are_alike.false) are)
    )
