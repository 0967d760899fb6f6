use Rattle.std.proofs.Common.{◌≡◌, ◌∷◌, [], ap, refl, true}
use Rattle.std.specs.Prelude.{Bool, Some}
use Rattle.std.proofs.lemmas.Result.{err_from_is_err_and}
use Rattle.dir_remote.specs.Guard.Gates.{is_whole, look_by, looks}
use Rattle.dir_remote.specs.Guard.Guards.{IsLook}
use Rattle.dir_remote.specs.declared.guard.place.Want.TheVariants.{Full}
use Rattle.dir_remote.proofs.GuardLemmas.Passing.{admits_short}
use Rattle.dir_remote.proofs.guard.gates.enter.Goals as goal

pub returns-in_err-gates-clause-passed : goal.returns-in_err-gates-clause-passed
returns-in_err-gates-clause-passed g c =
    let p = err_from_is_err_and c.from_residual.result c.from_residual.ensures.1 in
    let d = c.in-Some.directory.now in
    let whole : is_whole d ≡ true = c.in_err-gates.ensures.whole in
    let one : looks d ≡ record { want = Full; path = d } ∷ [] = ap (λ (b : Bool). look_by b d) whole in
    rw p.1
    (rw c.in-Some.is (admits_short (IsLook (Some d)) (looks d) (record { want = Full; path = d }) [] _ (g.P.Place.steps c.args.place.now) one refl))
