use Rattle.std.proofs.Common.{◌≡◌, ◌∙◌, ◌<◌, ℕ, List, length, ap, sym, subst, true, arith}
use Rattle.task_queue.specs.Groups.{IsFirst, is_set, number_at}
use Rattle.task_queue.proofs.Grouping.{first_step, set_within}
use Rattle.task_queue.proofs.groups.first_unclaimed.Goals as goal

pub tasks-preserved : goal.tasks-preserved
tasks-preserved c = λ group low first. (
    let groups = c.args.groups.now.of.items in
    let claimed = c.args.claimed.now in
    let taken : is_set claimed c.tasks.task ≡ true = sym c.is_set.ensures ∙ c.tasks-test.true in
    let within : c.tasks.task < length groups = omega (arith, set_within claimed c.tasks.task taken, c.requires.long) in
    subst (IsFirst groups claimed group low) (sym (c.number_at-task.ensures ∙ ap (λ (l : List ℕ). number_at l c.tasks.task) c.deref.ensures.value))
    (first_step groups c.args.groups.now.next.items claimed group low c.tasks.task c.requires.next taken within (c.tasks.invariant group low first))
    )
