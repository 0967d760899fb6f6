use Rattle.std.proofs.Common.{◌≡◌, ◌<◌, ◌^◌, ◌-◌, ◌++◌, length, replicate, take}
use Rattle.ann_key.specs.Numbers.{value_of}
use Rattle.task_text.proofs.chunk_log.parts.billionths.Given as goal

abbrev pub invariant-loop-digit : goal.invariant-loop-digit
invariant-loop-digit l = (l.nanos ≡ value_of (take l.digit-index l.digits)) × (l.nanos < 10 ^ l.digit-index)

abbrev pub invariant-loop-place : goal.invariant-loop-place
invariant-loop-place l = (l.nanos ≡ value_of (l.digits ++ replicate (l._place - length l.digits) 48)) × (l.nanos < 10 ^ l._place)
