use Rattle.std.proofs.Common.{arith}
use Rattle.ann_digest.proofs.Zeros.{get_or-zeros}
use Rattle.ann_digest.proofs.digest.Digest.of.Goals as goal

pub invariant_of-result : goal.invariant_of-result
invariant_of-result c = record { short = omega arith; blank = λ k low high. rw c.copy_from_slice.ensures.after (get_or-zeros c.args.given.now k low high) }
