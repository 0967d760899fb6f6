use Rattle.std.proofs.Common.{◌≡◌, drop}
use Rattle.dir_remote.specs.Guard.MemPlaces.{met_in}
use Rattle.dir_remote.proofs.guard.mem_place.met_in.Given as goal

abbrev pub invariant-loop-file : goal.invariant-loop-file
invariant-loop-file l = met_in (drop l.file-index l.files) l.path ≡ met_in l.files l.path
