use Rattle.std.proofs.Common.{◌≡◌, ◌∷◌, [], refl}
use Rattle.std.proofs.lemmas.Result.{err_from_is_err_and}
use Rattle.dir_remote.specs.declared.guard.place.Want.TheVariants.{Founded}
use Rattle.dir_remote.proofs.GuardLemmas.Passing.{admits_short}
use Rattle.dir_remote.proofs.guard.gates.found.Goals as goal

pub returns-in_err-make_gate-clause-passed : goal.returns-in_err-make_gate-clause-passed
returns-in_err-make_gate-clause-passed g c =
    let p = err_from_is_err_and c.from_residual.result c.from_residual.ensures.1 in
    rw p.1 (admits_short (λ gates. gates ≡ record { want = Founded; path = c.args.directory.now } ∷ []) (record { want = Founded; path = c.args.directory.now } ∷ []) (record { want = Founded; path = c.args.directory.now }) [] _ (g.P.Place.steps c.args.place.now) refl refl)

pub returns-in_err-push-clause-passed : goal.returns-in_err-push-clause-passed
returns-in_err-push-clause-passed g c =
    let p = err_from_is_err_and c.from_residual-in_err-push.result c.from_residual-in_err-push.ensures.1 in
    rw p.1 (admits_short (λ gates. gates ≡ record { want = Founded; path = c.args.directory.now } ∷ []) (record { want = Founded; path = c.args.directory.now } ∷ []) (record { want = Founded; path = c.args.directory.now }) [] _ (g.P.Place.steps c.args.place.now) refl refl)
