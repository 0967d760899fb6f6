use Rattle.std.proofs.Common.{◌≡◌, ◌≤◌, length, take}
use Rattle.std.specs.Prelude.{filter}
use Rattle.journal_model.specs.Legality.{numbers_of}
use Rattle.rehearse_command.specs.World.Walks.{is_equal}
use Rattle.rehearse_command.proofs.world.sums.equal_in.Given as goal

-- so many of the first tasks are
abbrev pub invariant-tasks : goal.invariant-tasks
invariant-tasks l = (l.equal ≡ length (filter (is_equal l.seed l.tasks l.world) (take l.before (numbers_of l.world.opening)))) × (l.equal ≤ l.before)
