use Rattle.std.proofs.Common.{◌≡◌, drop}
use Rattle.kit_async_model.specs.Jobs.{is_first_of_key}
use Rattle.kit_async_model.proofs.jobs.is_first_of_key.Given as goal

abbrev pub invariant-loop-other : goal.invariant-loop-other
invariant-loop-other l = is_first_of_key (drop l.other-index l.jobs) l.job ≡ is_first_of_key l.jobs l.job
