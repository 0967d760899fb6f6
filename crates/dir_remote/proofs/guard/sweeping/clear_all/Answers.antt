use Rattle.std.proofs.Common.{arith, add-one}
use Rattle.std.proofs.lemmas.Result.{err_from_is_err_and}
use Rattle.dir_remote.proofs.GuardLemmas.Clearing.{clears_goes_on, clears_short}
use Rattle.dir_remote.proofs.guard.sweeping.clear_all.Goals as goal

pub returns-in_err-clear : goal.returns-in_err-clear
returns-in_err-clear g c =
    let p = err_from_is_err_and c.from_residual.result c.from_residual.ensures.1 in
    rw p.1 (clears_short c.args.folder.now c.args.names.now c.loop-name.name-index c.name-item.result c.view.result.now c.in_err-clear.field-0.0 _ (g.P.Place.steps c.args.place.now) (g.P.Place.steps c.loop-name.place) (g.P.Place.steps c.clear.new.place)
    (omega arith) c.name-item.is c.view.ensures c.loop-name.invariant c.in_err-clear.ensures)

pub loop-name-preserved : goal.loop-name-preserved
loop-name-preserved g c =
    rw add-one
    (clears_goes_on c.args.folder.now c.args.names.now c.loop-name.name-index c.name-item.result c.view.result.now (g.P.Place.steps c.args.place.now) (g.P.Place.steps c.loop-name.place) (g.P.Place.steps c.clear.new.place)
    (omega arith) c.name-item.is c.view.ensures c.loop-name.invariant c.in_ok-clear.ensures)
