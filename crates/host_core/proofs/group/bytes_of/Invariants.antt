use Rattle.std.proofs.Common.{◌≡◌, ◌<◌, ◌^◌, length, sum_by, take}
use Rattle.host_core.proofs.group.bytes_of.Given as goal

abbrev pub invariant-loop-line : goal.invariant-loop-line
invariant-loop-line l = record {
  sum : l.bytes ≡ sum_by (λ line. length line) (take l.line-index l.lines);
  fits : l.bytes < 2 ^ 64;
}
