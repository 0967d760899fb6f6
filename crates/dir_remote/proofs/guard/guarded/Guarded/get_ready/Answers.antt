use Rattle.std.proofs.Common.{ℕ, List, refl, subst}
use Rattle.std.specs.Prelude.{Option, None, Ok, Err}
use Rattle.std.specs.Option.{option_copied}
use Rattle.std.proofs.lemmas.Result.{err_from_is_err_and}
use Rattle.kit_serve.specs.declared.kit.call.Said.{Said}
use Rattle.kit_serve.specs.declared.kit.call.Said.TheVariants.{Yes}
use Rattle.dir_remote.specs.Guard.Gates.{Admits}
use Rattle.dir_remote.specs.Guard.Guards.{IsLook}
use Rattle.dir_remote.proofs.GuardLemmas.Courses.{ready_cleared}
use Rattle.dir_remote.proofs.guard.guarded.Guarded.get_ready.Goals as goal

pub returns-in_err-clear-clause-entered : goal.returns-in_err-clear-clause-entered
returns-in_err-clear-clause-entered g c =
    let p = err_from_is_err_and c.from_residual-in_err-clear.result c.from_residual-in_err-clear.ensures.1 in
    let T : Option Said → Type 0 = λ o. Admits (IsLook (option_copied c.directory.result)) (g.P.Place.steps c.self.inside.place) (g.P.Place.steps c.enter.new.place) (Ok o) in
    let U : Option (List ℕ) → Type 0 = λ d. Admits (IsLook d) (g.P.Place.steps c.self.inside.place) (g.P.Place.steps c.enter.new.place) (Ok None) in
    rw (p.1, ← c.self.view_is)
    (ready_cleared c.self.inside.sweeps c.self.inside.remote.directory (g.P.Place.steps c.self.inside.place) (g.P.Place.steps c.enter.new.place) (g.P.Place.steps c.clear.new.self.place) (Err c.in_err-clear.field-0.0) _
    (subst U c.directory.ensures.directory (subst T c.in_default.is c.in_ok-failure.ensures.passed)) c.in_err-clear.ensures.cleared refl)

pub returns-clause-entered : goal.returns-clause-entered
returns-clause-entered g c =
    let T : Option Said → Type 0 = λ o. Admits (IsLook (option_copied c.directory.result)) (g.P.Place.steps c.self.inside.place) (g.P.Place.steps c.enter.new.place) (Ok o) in
    let U : Option (List ℕ) → Type 0 = λ d. Admits (IsLook d) (g.P.Place.steps c.self.inside.place) (g.P.Place.steps c.enter.new.place) (Ok None) in
    rw (← c.self.view_is)
    (ready_cleared c.self.inside.sweeps c.self.inside.remote.directory (g.P.Place.steps c.self.inside.place) (g.P.Place.steps c.enter.new.place) (g.P.Place.steps c.clear.new.self.place) (Ok c.in_ok-clear.field-0) (Ok Yes)
    (subst U c.directory.ensures.directory (subst T c.in_default.is c.in_ok-failure.ensures.passed)) c.in_ok-clear.ensures.cleared refl)
