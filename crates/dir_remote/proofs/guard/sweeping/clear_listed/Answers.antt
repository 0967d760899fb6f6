use Rattle.std.proofs.Common.{ℕ, List, subst}
use Rattle.dir_remote.specs.Guard.Steps.{AddsSome}
use Rattle.dir_remote.specs.Guard.Sweeps.{ClearsRest}
use Rattle.dir_remote.proofs.GuardLemmas.Clearing.{lists_by}
use Rattle.dir_remote.proofs.guard.sweeping.clear_listed.Goals as goal

pub returns : goal.returns
returns g c =
    let P : List (List ℕ) → Type 0 = λ names. AddsSome (g.P.Place.steps c.list.new.self) (g.P.Place.steps c.clear_all.new.place) (ClearsRest c.args.folder.now names c.clear_all.result) in
    lists_by c.args.folder.now c.in_ok-names.names c.clear_all.result (g.P.Place.steps c.args.place.now) (g.P.Place.steps c.list.new.self) (g.P.Place.steps c.clear_all.new.place)
    c.in_ok-names.ensures.steps (subst P c.view.ensures c.clear_all.ensures)
