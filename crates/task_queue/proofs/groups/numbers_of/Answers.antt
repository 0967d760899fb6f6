use Rattle.std.proofs.Common.{◌≡◌, ◌+◌, ap, length, arith}
use Rattle.task_queue.proofs.Grouping.{each_alone}
use Rattle.task_queue.proofs.groups.numbers_of.Goals as goal

pub returns : goal.returns
returns c = λ by. (
    let numbers = c.loop-number.numbers.items in
    let long : length numbers ≡ length c.args.opening.now.tasks + 1 = omega (arith, c.loop-number.invariant.long, ap length c.view.ensures) in
    each_alone by c.args.opening.now numbers long (λ t below. c.loop-number.invariant.own t (omega (arith, below, c.loop-number.invariant.long)))
    )
