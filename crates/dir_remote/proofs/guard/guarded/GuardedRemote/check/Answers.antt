use Rattle.std.proofs.Common.{ℕ, List, refl, subst}
use Rattle.std.specs.Prelude.{Option, None, Ok, Err}
use Rattle.std.specs.Option.{option_copied}
use Rattle.std.proofs.lemmas.Result.{err_from_is_err_and}
use Rattle.ann_key.specs.KeyRefs.{text_of}
use Rattle.kit_serve.specs.declared.kit.call.Said.{Said}
use Rattle.kit_serve.specs.declared.kit.call.Said.TheVariants.{Yes, No, Failure, Set}
use Rattle.dir_remote.specs.Desks.{CheckAnswers}
use Rattle.dir_remote.specs.Guard.Gates.{Admits, looks_of}
use Rattle.dir_remote.specs.Guard.Guards.{IsLook, Stands}
use Rattle.dir_remote.specs.Guard.Steps.{AddsSome}
use Rattle.dir_remote.proofs.GuardLemmas.Courses.{guards_again, guards_done}
use Rattle.dir_remote.proofs.guard.guarded.GuardedRemote.check.Goals as goal

pub returns-in_err-check-clause-checked : goal.returns-in_err-check-clause-checked
returns-in_err-check-clause-checked g c =
    let p = err_from_is_err_and c.from_residual-in_err-check.result c.from_residual-in_err-check.ensures.1 in
    let T : Option Said → Type 0 = λ o. Admits (IsLook (option_copied c.directory.result)) (g.P.Place.steps c.self.inside.place) (g.P.Place.steps c.enter.new.place) (Ok o) in
    let U : Option (List ℕ) → Type 0 = λ d. Admits (IsLook d) (g.P.Place.steps c.self.inside.place) (g.P.Place.steps c.enter.new.place) (Ok None) in
    let a = subst U c.directory.ensures.directory (subst T c.in_default.is c.in_ok-stopped.ensures.passed) in
    rw (p.1, p.2, ← c.self.view_is) (guards_done _ _ _ _ _ (Err c.in_err-check.field-0.0) a c.in_err-check.ensures.checked refl)

pub returns-in-Yes-clause-checked : goal.returns-in-Yes-clause-checked
returns-in-Yes-clause-checked g c =
    let T : Option Said → Type 0 = λ o. Admits (IsLook (option_copied c.directory.result)) (g.P.Place.steps c.self.inside.place) (g.P.Place.steps c.enter.new.place) (Ok o) in
    let U : Option (List ℕ) → Type 0 = λ d. Admits (IsLook d) (g.P.Place.steps c.self.inside.place) (g.P.Place.steps c.enter.new.place) (Ok None) in
    let a = subst U c.directory.ensures.directory (subst T c.in_default.is c.in_ok-stopped.ensures.passed) in
    let I : Said → Type 0 = λ s. CheckAnswers (g.D.Desk.told c.self.inside.remote.desk) (g.D.Desk.told c.check.new.self.desk) c.self.inside.remote.directory (text_of c.args.key) (Ok s) in
    rw (← c.self.view_is) (guards_done _ _ _ _ _ (Ok Yes) a (subst I c.in-Yes.is c.in_ok-check.ensures.checked) refl)

pub returns-in-Failure-clause-checked : goal.returns-in-Failure-clause-checked
returns-in-Failure-clause-checked g c =
    let T : Option Said → Type 0 = λ o. Admits (IsLook (option_copied c.directory.result)) (g.P.Place.steps c.self.inside.place) (g.P.Place.steps c.enter.new.place) (Ok o) in
    let U : Option (List ℕ) → Type 0 = λ d. Admits (IsLook d) (g.P.Place.steps c.self.inside.place) (g.P.Place.steps c.enter.new.place) (Ok None) in
    let a = subst U c.directory.ensures.directory (subst T c.in_default.is c.in_ok-stopped.ensures.passed) in
    let I : Said → Type 0 = λ s. CheckAnswers (g.D.Desk.told c.self.inside.remote.desk) (g.D.Desk.told c.check.new.self.desk) c.self.inside.remote.directory (text_of c.args.key) (Ok s) in
    rw (← c.self.view_is) (guards_done _ _ _ _ _ (Ok (Failure c.in-Failure.text)) a (subst I c.in-Failure.is c.in_ok-check.ensures.checked) refl)

pub returns-in-No-clause-checked : goal.returns-in-No-clause-checked
returns-in-No-clause-checked g c =
    let T : Option Said → Type 0 = λ o. Admits (IsLook (option_copied c.directory.result)) (g.P.Place.steps c.self.inside.place) (g.P.Place.steps c.enter.new.place) (Ok o) in
    let U : Option (List ℕ) → Type 0 = λ d. Admits (IsLook d) (g.P.Place.steps c.self.inside.place) (g.P.Place.steps c.enter.new.place) (Ok None) in
    let a = subst U c.directory.ensures.directory (subst T c.in_default.is c.in_ok-stopped.ensures.passed) in
    let I : Said → Type 0 = λ s. CheckAnswers (g.D.Desk.told c.self.inside.remote.desk) (g.D.Desk.told c.check.new.self.desk) c.self.inside.remote.directory (text_of c.args.key) (Ok s) in
    let C : Option (List ℕ) → Type 0 = λ d. AddsSome (g.P.Place.steps c.enter.new.place) (g.P.Place.steps c.confirm.new.self.place) (λ steps. Stands (looks_of d) steps (Ok No) c.confirm.result) in
    rw (c.confirm.ensures.same.desk, ← c.self.view_is)
    (guards_again _ _ _ _ _ (g.P.Place.steps c.enter.new.place) (Ok No) c.confirm.result a (subst I c.in-No.is c.in_ok-check.ensures.checked) (subst C c.in_ok-check.ensures.directory c.confirm.ensures.confirmed))

pub returns-in-Set-clause-checked : goal.returns-in-Set-clause-checked
returns-in-Set-clause-checked g c =
    let T : Option Said → Type 0 = λ o. Admits (IsLook (option_copied c.directory.result)) (g.P.Place.steps c.self.inside.place) (g.P.Place.steps c.enter.new.place) (Ok o) in
    let U : Option (List ℕ) → Type 0 = λ d. Admits (IsLook d) (g.P.Place.steps c.self.inside.place) (g.P.Place.steps c.enter.new.place) (Ok None) in
    let a = subst U c.directory.ensures.directory (subst T c.in_default.is c.in_ok-stopped.ensures.passed) in
    let I : Said → Type 0 = λ s. CheckAnswers (g.D.Desk.told c.self.inside.remote.desk) (g.D.Desk.told c.check.new.self.desk) c.self.inside.remote.directory (text_of c.args.key) (Ok s) in
    rw (← c.self.view_is) (guards_done _ _ _ _ _ (Ok (Set c.in-Set.pairs)) a (subst I c.in-Set.is c.in_ok-check.ensures.checked) refl)
