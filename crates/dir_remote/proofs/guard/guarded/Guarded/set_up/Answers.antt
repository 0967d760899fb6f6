use Rattle.std.proofs.Common.{ℕ, List, refl, subst}
use Rattle.std.specs.Prelude.{Option, Ok}
use Rattle.std.proofs.lemmas.Result.{err_from_is_err_and}
use Rattle.kit_serve.specs.declared.kit.call.Said.{Said}
use Rattle.dir_remote.specs.Guard.Gates.{Admits}
use Rattle.dir_remote.specs.Guard.Guards.{ReadiesBy, told_by}
use Rattle.dir_remote.proofs.GuardLemmas.Courses.{IsFounding, founds_held, founds_ready, founds_short}
use Rattle.dir_remote.proofs.guard.guarded.Guarded.set_up.Goals as goal

pub returns-in_err-said-clause-founds : goal.returns-in_err-said-clause-founds
returns-in_err-said-clause-founds g c =
    let p = err_from_is_err_and c.from_residual.result c.from_residual.ensures.1 in
    rw (p.1, ← c.self.view_is) (founds_short _ _ _ _ c.in_err-said.field-0.0 _ (record { desk = refl; mark = refl; directory = refl }) c.in_err-said.ensures.passed)

pub returns-in-Some-clause-founds : goal.returns-in-Some-clause-founds
returns-in-Some-clause-founds g c =
    let T : Option Said → Type 0 = λ o. Admits (IsFounding c.args.directory.now) (g.P.Place.steps c.self.inside.place) (g.P.Place.steps c.found.new.place) (Ok o) in
    rw (← c.self.view_is) (founds_held _ _ _ _ c.in-Some.said (record { desk = refl; mark = refl; directory = refl }) (subst T c.in-Some.is c.in_ok-said.ensures.passed))

pub returns-clause-founds : goal.returns-clause-founds
returns-clause-founds g c =
    let T : Option Said → Type 0 = λ o. Admits (IsFounding c.args.directory.now) (g.P.Place.steps c.self.inside.place) (g.P.Place.steps c.found.new.place) (Ok o) in
    let R : List ℕ → Type 0 = λ v. ReadiesBy c.self.inside.sweeps v
    (record { steps = g.P.Place.steps c.found.new.place; mark = c.self.inside.remote.mark; directory = c.self.inside.remote.directory; desk = g.D.Desk.told c.self.inside.remote.desk })
    (told_by g.P.Place.steps g.D.Desk.told c.prepare.new.self) c.prepare.result in
    rw (← c.self.view_is)
    (founds_ready _ _ _ _ (g.P.Place.steps c.found.new.place) c.prepare.result (subst T c.in_default.is c.in_ok-said.ensures.passed) (subst R c.requires.value c.prepare.ensures.readied))
