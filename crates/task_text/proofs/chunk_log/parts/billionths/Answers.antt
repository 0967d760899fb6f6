use Rattle.std.proofs.Common.{◌<◌, arith}
use Rattle.task_text.proofs.ChunkLogLemmas.Digits.{small}
use Rattle.task_text.proofs.chunk_log.parts.billionths.Goals as goal

pub overflow_mul-nanos : goal.overflow_mul-nanos
overflow_mul-nanos c =
    let few : c.loop-digit.nanos < 100000000 = small c.loop-digit.nanos c.loop-digit.digit-index c.loop-digit.invariant.1 (omega arith) in
    omega arith

pub overflow_add-nanos : goal.overflow_add-nanos
overflow_add-nanos c =
    let few : c.loop-digit.nanos < 100000000 = small c.loop-digit.nanos c.loop-digit.digit-index c.loop-digit.invariant.1 (omega arith) in
    omega (arith, c.type_inv.digits c.loop-digit.digit-index)

pub overflow_mul-nanos-in-loop-place : goal.overflow_mul-nanos-in-loop-place
overflow_mul-nanos-in-loop-place c =
    let few : c.loop-place.nanos < 100000000 = small c.loop-place.nanos c.loop-place._place c.loop-place.invariant.1 (omega arith) in
    omega arith
