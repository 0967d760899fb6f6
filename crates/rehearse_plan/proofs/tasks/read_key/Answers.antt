use Rattle.std.proofs.Common.{arith}
use Rattle.rehearse_plan.proofs.Planned.{no_fault}
use Rattle.rehearse_plan.proofs.tasks.read_key.Goals as goal

pub unreachable-requires : goal.unreachable-requires
unreachable-requires c =
    let small = c.ranges.key.fits in
    no_fault c.args.text.now c.args.key c.in-Err.ensures.spelled c.requires (omega (arith, small))
