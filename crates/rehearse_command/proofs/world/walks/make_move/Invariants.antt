use Rattle.std.proofs.Common.{◌≡◌}
use Rattle.rehearse_command.specs.World.Walks.{AllRest, place}
use Rattle.rehearse_command.proofs.world.walks.make_move.Given as goal

-- so many of the candidates can't be made, and nothing has changed
abbrev pub invariant-candidates : goal.invariant-candidates
invariant-candidates l = (l.world ≡ l.fn.world) × AllRest l.fn.world l.t (place l.seed l.t) l.before
