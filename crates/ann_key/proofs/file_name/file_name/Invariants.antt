use Rattle.std.proofs.Common.{◌≡◌, take}
use Rattle.ann_key.specs.FileNames.{file_name_of}
use Rattle.ann_key.proofs.file_name.file_name.Given as goal

abbrev pub invariant-loop-b : goal.invariant-loop-b
invariant-loop-b l = l.name.items ≡ file_name_of (take l.b-index l.text)
