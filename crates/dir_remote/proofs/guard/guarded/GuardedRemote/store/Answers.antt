use Rattle.std.proofs.Common.{ℕ, List, refl, subst}
use Rattle.std.specs.Prelude.{Option, None, Ok}
use Rattle.std.specs.Option.{option_copied}
use Rattle.ann_key.specs.KeyRefs.{text_of}
use Rattle.kit_serve.specs.declared.kit.call.Said.{Said}
use Rattle.dir_remote.specs.Guard.Gates.{Admits, AreGates, store_gates}
use Rattle.dir_remote.proofs.GuardLemmas.Courses.{guards_done}
use Rattle.dir_remote.proofs.guard.guarded.GuardedRemote.store.Goals as goal

pub returns-in-None-clause-stored : goal.returns-in-None-clause-stored
returns-in-None-clause-stored g c =
    let T : Option Said → Type 0 = λ o. Admits (AreGates store_gates (option_copied c.directory.result) (text_of c.args.key)) (g.P.Place.steps c.self.inside.place) (g.P.Place.steps c.enter_to_store.new.place) (Ok o) in
    let U : Option (List ℕ) → Type 0 = λ d. Admits (AreGates store_gates d (text_of c.args.key)) (g.P.Place.steps c.self.inside.place) (g.P.Place.steps c.enter_to_store.new.place) (Ok None) in
    let a = subst U c.directory.ensures.directory (subst T c.in-None.is c.in_ok-stopped.ensures.passed) in
    rw (← c.self.view_is) (guards_done _ _ _ _ _ c.store.result a (c.store.ensures.stored, c.store.ensures.spared) refl)
