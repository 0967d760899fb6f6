use Rattle.pair_world.proofs.Standing.{stands_ok}
use Rattle.pair_world.proofs.StoredMoves.{files_ok}
use Rattle.pair_world.proofs.world.World.step.Goals as goal

pub make-requires : goal.make-requires
make-requires c = c.requires.linked

pub returns-clause-stands : goal.returns-clause-stands
returns-clause-stands c = stands_ok c.args.self.now c.make.new.self c.args.step c.make.result c.make.ensures.moves c.make.ensures.few c.requires

pub returns-clause-files : goal.returns-clause-files
returns-clause-files c = files_ok c.args.self.now c.make.new.self c.args.step c.make.result c.make.ensures.moves
