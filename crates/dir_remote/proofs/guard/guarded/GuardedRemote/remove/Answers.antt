use Rattle.std.proofs.Common.{ℕ, List, refl, subst}
use Rattle.std.specs.Prelude.{Option, None, Ok, Err}
use Rattle.std.specs.Option.{option_copied}
use Rattle.std.proofs.lemmas.Result.{err_from_is_err_and}
use Rattle.ann_key.specs.KeyRefs.{text_of}
use Rattle.kit_serve.specs.declared.kit.call.Said.{Said}
use Rattle.kit_serve.specs.declared.kit.call.Said.TheVariants.{Yes, No, Failure, Set}
use Rattle.dir_remote.specs.Desks.{RemoveAnswers}
use Rattle.dir_remote.specs.Guard.Gates.{Admits, AreGates, looks_of, removal_gates}
use Rattle.dir_remote.specs.Guard.Guards.{Stands}
use Rattle.dir_remote.specs.Guard.Steps.{AddsSome}
use Rattle.dir_remote.proofs.GuardLemmas.Courses.{guards_again, guards_done, guards_short}
use Rattle.dir_remote.proofs.guard.guarded.GuardedRemote.remove.Goals as goal

pub returns-in_err-remove-clause-removed : goal.returns-in_err-remove-clause-removed
returns-in_err-remove-clause-removed g c =
    let p = err_from_is_err_and c.from_residual-in_err-remove.result c.from_residual-in_err-remove.ensures.1 in
    let T : Option Said → Type 0 = λ o. Admits (AreGates removal_gates (option_copied c.directory.result) (text_of c.args.key)) (g.P.Place.steps c.self.inside.place) (g.P.Place.steps c.enter_to_remove.new.place) (Ok o) in
    let U : Option (List ℕ) → Type 0 = λ d. Admits (AreGates removal_gates d (text_of c.args.key)) (g.P.Place.steps c.self.inside.place) (g.P.Place.steps c.enter_to_remove.new.place) (Ok None) in
    let a = subst U c.directory.ensures.directory (subst T c.in_default.is c.in_ok-stopped.ensures.passed) in
    rw (p.1, p.2, ← c.self.view_is) (guards_done _ _ _ _ _ (Err c.in_err-remove.field-0.0) a c.in_err-remove.ensures.removed refl)

pub returns-in-No-clause-removed : goal.returns-in-No-clause-removed
returns-in-No-clause-removed g c =
    let T : Option Said → Type 0 = λ o. Admits (AreGates removal_gates (option_copied c.directory.result) (text_of c.args.key)) (g.P.Place.steps c.self.inside.place) (g.P.Place.steps c.enter_to_remove.new.place) (Ok o) in
    let U : Option (List ℕ) → Type 0 = λ d. Admits (AreGates removal_gates d (text_of c.args.key)) (g.P.Place.steps c.self.inside.place) (g.P.Place.steps c.enter_to_remove.new.place) (Ok None) in
    let a = subst U c.directory.ensures.directory (subst T c.in_default.is c.in_ok-stopped.ensures.passed) in
    let I : Said → Type 0 = λ s. RemoveAnswers (g.D.Desk.told c.self.inside.remote.desk) (g.D.Desk.told c.remove.new.self.desk) c.self.inside.remote.directory (text_of c.args.key) (Ok s) in
    rw (← c.self.view_is) (guards_done _ _ _ _ _ (Ok No) a (subst I c.in-No.is c.in_ok-remove.ensures.removed) refl)

pub returns-in-Failure-clause-removed : goal.returns-in-Failure-clause-removed
returns-in-Failure-clause-removed g c =
    let T : Option Said → Type 0 = λ o. Admits (AreGates removal_gates (option_copied c.directory.result) (text_of c.args.key)) (g.P.Place.steps c.self.inside.place) (g.P.Place.steps c.enter_to_remove.new.place) (Ok o) in
    let U : Option (List ℕ) → Type 0 = λ d. Admits (AreGates removal_gates d (text_of c.args.key)) (g.P.Place.steps c.self.inside.place) (g.P.Place.steps c.enter_to_remove.new.place) (Ok None) in
    let a = subst U c.directory.ensures.directory (subst T c.in_default.is c.in_ok-stopped.ensures.passed) in
    let I : Said → Type 0 = λ s. RemoveAnswers (g.D.Desk.told c.self.inside.remote.desk) (g.D.Desk.told c.remove.new.self.desk) c.self.inside.remote.directory (text_of c.args.key) (Ok s) in
    rw (← c.self.view_is) (guards_done _ _ _ _ _ (Ok (Failure c.in-Failure.text)) a (subst I c.in-Failure.is c.in_ok-remove.ensures.removed) refl)

pub returns-in-Yes-clause-removed : goal.returns-in-Yes-clause-removed
returns-in-Yes-clause-removed g c =
    let T : Option Said → Type 0 = λ o. Admits (AreGates removal_gates (option_copied c.directory.result) (text_of c.args.key)) (g.P.Place.steps c.self.inside.place) (g.P.Place.steps c.enter_to_remove.new.place) (Ok o) in
    let U : Option (List ℕ) → Type 0 = λ d. Admits (AreGates removal_gates d (text_of c.args.key)) (g.P.Place.steps c.self.inside.place) (g.P.Place.steps c.enter_to_remove.new.place) (Ok None) in
    let a = subst U c.directory.ensures.directory (subst T c.in_default.is c.in_ok-stopped.ensures.passed) in
    let I : Said → Type 0 = λ s. RemoveAnswers (g.D.Desk.told c.self.inside.remote.desk) (g.D.Desk.told c.remove.new.self.desk) c.self.inside.remote.directory (text_of c.args.key) (Ok s) in
    let C : Option (List ℕ) → Type 0 = λ d. AddsSome (g.P.Place.steps c.enter_to_remove.new.place) (g.P.Place.steps c.confirm.new.self.place) (λ steps. Stands (looks_of d) steps (Ok Yes) c.confirm.result) in
    rw (c.confirm.ensures.same.desk, ← c.self.view_is)
    (guards_again _ _ _ _ _ (g.P.Place.steps c.enter_to_remove.new.place) (Ok Yes) c.confirm.result a (subst I c.in-Yes.is c.in_ok-remove.ensures.removed) (subst C c.in_ok-remove.ensures.directory c.confirm.ensures.confirmed))

pub returns-in_err-stopped-clause-removed : goal.returns-in_err-stopped-clause-removed
returns-in_err-stopped-clause-removed g c =
    let p = err_from_is_err_and c.from_residual.result c.from_residual.ensures.1 in
    let U : Option (List ℕ) → Type 0 = λ d. Admits (AreGates removal_gates d (text_of c.args.key)) (g.P.Place.steps c.self.inside.place) (g.P.Place.steps c.enter_to_remove.new.place) (Err c.in_err-stopped.field-0.0) in
    rw (p.1, ← c.self.view_is) (guards_short _ _ _ _ _ c.in_err-stopped.field-0.0 _ refl (subst U c.directory.ensures.directory c.in_err-stopped.ensures.passed))

pub returns-in-Set-clause-removed : goal.returns-in-Set-clause-removed
returns-in-Set-clause-removed g c =
    let T : Option Said → Type 0 = λ o. Admits (AreGates removal_gates (option_copied c.directory.result) (text_of c.args.key)) (g.P.Place.steps c.self.inside.place) (g.P.Place.steps c.enter_to_remove.new.place) (Ok o) in
    let U : Option (List ℕ) → Type 0 = λ d. Admits (AreGates removal_gates d (text_of c.args.key)) (g.P.Place.steps c.self.inside.place) (g.P.Place.steps c.enter_to_remove.new.place) (Ok None) in
    let a = subst U c.directory.ensures.directory (subst T c.in_default.is c.in_ok-stopped.ensures.passed) in
    let I : Said → Type 0 = λ s. RemoveAnswers (g.D.Desk.told c.self.inside.remote.desk) (g.D.Desk.told c.remove.new.self.desk) c.self.inside.remote.directory (text_of c.args.key) (Ok s) in
    let C : Option (List ℕ) → Type 0 = λ d. AddsSome (g.P.Place.steps c.enter_to_remove.new.place) (g.P.Place.steps c.confirm-in-Set.new.self.place) (λ steps. Stands (looks_of d) steps (Ok (Set c.in-Set.pairs)) c.confirm-in-Set.result) in
    rw (c.confirm-in-Set.ensures.same.desk, ← c.self.view_is)
    (guards_again _ _ _ _ _ (g.P.Place.steps c.enter_to_remove.new.place) (Ok (Set c.in-Set.pairs)) c.confirm-in-Set.result a (subst I c.in-Set.is c.in_ok-remove.ensures.removed) (subst C c.in_ok-remove.ensures.directory c.confirm-in-Set.ensures.confirmed))
