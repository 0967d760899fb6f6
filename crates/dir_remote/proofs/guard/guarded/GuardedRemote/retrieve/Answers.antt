use Rattle.std.proofs.Common.{ℕ, List, refl, subst}
use Rattle.std.specs.Prelude.{Option, None, Ok}
use Rattle.std.specs.Option.{option_copied}
use Rattle.kit_serve.specs.declared.kit.call.Said.{Said}
use Rattle.dir_remote.specs.Guard.Gates.{Admits}
use Rattle.dir_remote.specs.Guard.Guards.{IsLook}
use Rattle.dir_remote.proofs.GuardLemmas.Courses.{guards_done}
use Rattle.dir_remote.proofs.guard.guarded.GuardedRemote.retrieve.Goals as goal

pub returns-in-None-clause-retrieved : goal.returns-in-None-clause-retrieved
returns-in-None-clause-retrieved g c =
    let T : Option Said → Type 0 = λ o. Admits (IsLook (option_copied c.directory.result)) (g.P.Place.steps c.self.inside.place) (g.P.Place.steps c.enter.new.place) (Ok o) in
    let U : Option (List ℕ) → Type 0 = λ d. Admits (IsLook d) (g.P.Place.steps c.self.inside.place) (g.P.Place.steps c.enter.new.place) (Ok None) in
    let a = subst U c.directory.ensures.directory (subst T c.in-None.is c.in_ok-stopped.ensures.passed) in
    rw (← c.self.view_is) (guards_done _ _ _ _ _ c.retrieve.result a c.retrieve.ensures.retrieved refl)
