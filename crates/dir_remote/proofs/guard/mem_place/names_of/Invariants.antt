use Rattle.std.proofs.Common.{◌≡◌, map, take}
use Rattle.dir_remote.specs.declared.guard.mem_place.MemFile.{MemFile}
use Rattle.dir_remote.proofs.guard.mem_place.names_of.Given as goal

abbrev pub invariant-loop-file : goal.invariant-loop-file
invariant-loop-file l = l.names.items ≡ map (λ (file : MemFile). file.name) (take l.file-index l.files)
