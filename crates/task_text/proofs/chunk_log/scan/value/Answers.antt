use Rattle.std.proofs.Common.{◌≡◌, ◌^◌, false, arith, refl}
use Rattle.std.specs.Prelude.{nat_lt}
use Rattle.ann_key.specs.Numbers.{value_of}
use Rattle.task_text.proofs.ChunkLogLemmas.Digits.{over}
use Rattle.task_text.proofs.chunk_log.scan.value.Goals as goal

pub returns-then-next-ge18446744073709551616 : goal.returns-then-next-ge18446744073709551616
returns-then-next-ge18446744073709551616 c =
    let past : nat_lt (value_of c.args.digits.now) (2 ^ 64) ≡ false = over c.loop-digit.digit-index c.args.digits.now c.loop-digit-test.true (omega arith) in
    rw past refl
