use Rattle.std.proofs.Common.{◌∙◌, ◌∷◌, [], ℕ, List, ap, refl, take}
use Rattle.std.specs.Prelude.{codes, Some}
use Rattle.std.proofs.lemmas.Result.{err_from_is_err_and}
use Rattle.ann_key.specs.KeyRefs.{text_of}
use Rattle.dir_remote.specs.Guard.Gates.{AreGates, store_gates, is_whole, stand_by, under}
use Rattle.dir_remote.specs.declared.guard.place.Want.TheVariants.{Made}
use Rattle.dir_remote.proofs.GuardLemmas.Passing.{admits_made, admits_short, folder_of_key}
use Rattle.dir_remote.proofs.guard.gates.enter_to_store.Goals as goal

pub outer_of-requires : goal.outer_of-requires
outer_of-requires g c = folder_of_key c.args.key c.lower-folder.result c.lower-folder.ensures

pub inner_of-requires : goal.inner_of-requires
inner_of-requires g c = folder_of_key c.args.key c.lower-folder.result c.lower-folder.ensures

pub returns-clause-passed : goal.returns-clause-passed
returns-clause-passed g c =
    let d = c.in-Some.directory.now in
    rw c.in-Some.is
    (admits_made (AreGates store_gates (Some d) (text_of c.args.key)) c.deref.result.now (g.P.Place.steps c.args.place.now) (g.P.Place.steps c.pass.new.place) c.pass.result
    (c.lower-folder.result, folder_of_key c.args.key c.lower-folder.result c.lower-folder.ensures, c.deref.ensures.value ∙ c.in_ok-gates.ensures ∙ ap (λ (f : List ℕ). store_gates d f) c.inner_of.ensures)
    c.pass.ensures.passed)

pub returns-in_err-gates-clause-passed : goal.returns-in_err-gates-clause-passed
returns-in_err-gates-clause-passed g c =
    let p = err_from_is_err_and c.from_residual.result c.from_residual.ensures.1 in
    let d = c.in-Some.directory.now in
    let f = c.lower-folder.result in
    rw p.1
    (rw c.in-Some.is
    (admits_short (AreGates store_gates (Some d) (text_of c.args.key)) (store_gates d f) (stand_by (is_whole d) d)
    (record { want = Made; path = under d (codes "tmp") } ∷ record { want = Made; path = under d (take 3 f) } ∷ record { want = Made; path = under d f } ∷ []) _ (g.P.Place.steps c.args.place.now)
    refl (f, folder_of_key c.args.key f c.lower-folder.ensures, refl)))
