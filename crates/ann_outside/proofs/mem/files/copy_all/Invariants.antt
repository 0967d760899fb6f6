use Rattle.std.proofs.Common.{◌≡◌, take}
use Rattle.ann_outside.proofs.mem.files.copy_all.Given as goal

abbrev pub invariant-loop-file : goal.invariant-loop-file
invariant-loop-file l = l.copy.items ≡ take l.file-index l.files
