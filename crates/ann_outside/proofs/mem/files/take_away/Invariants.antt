use Rattle.std.proofs.Common.{◌≡◌, ◌≤◌}
use Rattle.std.specs.Prelude.{vec_len, vec_capacity}
use Rattle.ann_outside.specs.Files.{OthersStay}
use Rattle.ann_outside.proofs.mem.files.take_away.Given as goal

abbrev pub invariant-loop-at : goal.invariant-loop-at
invariant-loop-at l = record {
  others : OthersStay (λ other. other ≡ l.name) l.initial.files.items l.files.items;
  capacity : vec_capacity l.files ≡ vec_capacity l.initial.files;
  len : vec_len l.files ≤ vec_len l.initial.files;
}

abbrev pub decreases-loop-at : goal.decreases-loop-at
decreases-loop-at l = vec_len l.files
