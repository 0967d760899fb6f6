use Rattle.pair_world.specs.Standing.{Stands}
use Rattle.pair_kit.specs.Stored.{ChangesFiles}
use Rattle.rehearse_command.specs.World.Walks.{AreMade}
use Rattle.rehearse_command.proofs.world.walks.make_moves.Given as goal

-- so many moves were made
abbrev pub invariant-moves : goal.invariant-moves
invariant-moves l = AreMade l.seed l.before l.fn.world l.world × Stands l.world × ChangesFiles l.fn.world l.world
