use Rattle.std.proofs.Common.{◌≡◌, take}
use Rattle.ann_key.specs.Numbers.{value_of}
use Rattle.task_text.proofs.chunk_log.scan.value.Given as goal

abbrev pub invariant-loop-digit : goal.invariant-loop-digit
invariant-loop-digit l = l.n ≡ value_of (take l.digit-index l.digits)
