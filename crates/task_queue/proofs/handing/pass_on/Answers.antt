use Rattle.std.proofs.Common.{◌≡◌, ◌∙◌, ℕ, ◌+◌, ◌<◌, List, ap, length, arith, false}
use Rattle.task_queue.specs.Groups.{number_at}
use Rattle.task_queue.proofs.Grouping.{found_next}
use Rattle.task_queue.proofs.Keeping.{handed_on, not_handed}
use Rattle.task_queue.proofs.handing.pass_on.Goals as goal

pub returns-then-is_group_busy-clause-passed : goal.returns-then-is_group_busy-clause-passed
returns-then-is_group_busy-clause-passed c =
    not_handed c.args.groups.now.of.items c.args.claimed.now (number_at c.args.groups.now.of.items c.args.task) (c.args.task + 1) c.args.ready.now.flags.items

pub returns-clause-passed : goal.returns-clause-passed
returns-clause-passed c =
    let g = c.args.groups.now in
    let groups = g.of.items in
    let claimed = c.args.claimed.now in
    let task = c.args.task in
    let next = c.first_unclaimed-next.result in
    let at : c.number_at-next.result ≡ number_at g.next.items task = c.number_at-next.ensures ∙ ap (λ (l : List ℕ). number_at l task) c.deref.ensures.value in
    let within : task < length groups = omega (arith, c.requires.within, c.requires.kept.long) in
    handed_on groups claimed (number_at groups task) (task + 1) next false c.args.ready.now.flags.items c.mark.new.self.flags.items
    (found_next groups g.next.items claimed task c.number_at-next.result next c.requires.kept.next within at c.first_unclaimed-next.ensures.first)
    c.first_unclaimed-next.ensures.unclaimed c.mark.ensures.flags
