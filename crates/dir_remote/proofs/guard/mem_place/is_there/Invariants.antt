use Rattle.std.proofs.Common.{◌≡◌, drop}
use Rattle.dir_remote.specs.Guard.MemPlaces.{is_there}
use Rattle.dir_remote.proofs.guard.mem_place.is_there.Given as goal

abbrev pub invariant-loop-file : goal.invariant-loop-file
invariant-loop-file l = is_there (drop l.file-index l.files) l.path ≡ is_there l.files l.path
