use Rattle.std.proofs.Common.{◌≡◌, drop}
use Rattle.ann_outside.specs.Files.{content}
use Rattle.ann_outside.proofs.mem.files.find.Given as goal

abbrev pub invariant-loop-file : goal.invariant-loop-file
invariant-loop-file l = content l.name (drop l.file-index l.files) ≡ content l.name l.files
