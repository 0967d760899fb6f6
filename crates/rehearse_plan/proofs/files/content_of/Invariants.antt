use Rattle.std.proofs.Common.{◌≡◌}
use Rattle.std.specs.Prelude.{map}
use Rattle.std.specs.List.{range_with_len}
use Rattle.rehearse_plan.specs.Plans.{byte_of}
use Rattle.rehearse_plan.proofs.files.content_of.Given as goal

-- so many bytes were made
abbrev pub invariant-bytes : goal.invariant-bytes
invariant-bytes l = l.bytes.items ≡ map (byte_of l.initial.key) (range_with_len 0 l.at)
