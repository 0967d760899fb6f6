use Rattle.std.proofs.Common.{◌≡◌, ◌++◌, drop, false}
use Rattle.dir_remote.specs.Guard.LeftFiles.{read_on}
use Rattle.dir_remote.proofs.guard.left.text_of_file.Given as goal

abbrev pub invariant-loop-b : goal.invariant-loop-b
invariant-loop-b l = l.text.items ++ read_on l.escapes (drop l.b-index l.name) ≡ read_on false l.name
