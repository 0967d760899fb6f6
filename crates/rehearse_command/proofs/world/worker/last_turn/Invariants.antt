use Rattle.std.proofs.Common.{◌≡◌, ◌-◌, length, take}
use Rattle.rehearse_command.specs.World.Workers.{last_turn}
use Rattle.rehearse_command.proofs.world.worker.last_turn.Given as goal

-- the last so many entries say nothing of the worker
abbrev pub invariant-entries : goal.invariant-entries
invariant-entries l = last_turn l.journal.entries l.child ≡ last_turn (take (length l.journal.entries - l.back) l.journal.entries) l.child
