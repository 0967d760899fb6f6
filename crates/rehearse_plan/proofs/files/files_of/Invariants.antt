use Rattle.std.proofs.Common.{◌≡◌}
use Rattle.std.specs.Prelude.{map}
use Rattle.std.specs.List.{range_with_len}
use Rattle.rehearse_plan.specs.Plans.{file_of}
use Rattle.rehearse_plan.proofs.files.files_of.Given as goal

-- the files of so many keys were made
abbrev pub invariant-keys : goal.invariant-keys
invariant-keys l = l.files.items ≡ map file_of (range_with_len 0 l.key)
