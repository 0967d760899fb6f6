use Rattle.std.proofs.Common.{◌≡◌, ◌∙◌, subst, true, false, arith}
use Rattle.std.proofs.lemmas.Grind.{common_steps}
use Rattle.std.proofs.lemmas.Result.{err_from_is_err_and}
use Rattle.dir_remote.specs.Guard.LeftFiles.{is_left}
use Rattle.dir_remote.specs.Guard.Steps.{stepped}
use Rattle.dir_remote.specs.declared.guard.place.Step.TheVariants.{Met}
use Rattle.dir_remote.specs.declared.guard.place.What.{What}
use Rattle.dir_remote.proofs.GuardLemmas.Clearing.{clear_else, clear_not, clear_old, clear_unremoved}
use Rattle.dir_remote.proofs.GuardLemmas.Passing.{answered}
use Rattle.dir_remote.proofs.guard.sweeping.clear.Goals as goal

pub returns-then-not-left : goal.returns-then-not-left
returns-then-not-left g c =
    let e : is_left c.args.name.now ≡ false = grind (arith, common_steps) in clear_not c.args.folder.now c.args.name.now (g.P.Place.steps c.args.place.now) e

pub returns-in_err-remove-in-OldFile : goal.returns-in_err-remove-in-OldFile
returns-in_err-remove-in-OldFile g c =
    let p = err_from_is_err_and c.from_residual-in_err-remove-in-OldFile.result c.from_residual-in_err-remove-in-OldFile.ensures.1 in
    let e : is_left c.args.name.now ≡ true = grind (arith, common_steps) in
    let M : What → Type 0 = λ w. g.P.Place.steps c.meet.new.self ≡ stepped (g.P.Place.steps c.args.place.now) (λ (what : What). Met c.view-path.result.now what) (answered w) in
    rw p.1 (clear_unremoved c.args.folder.now c.args.name.now c.view-path.result.now c.in_err-remove-in-OldFile.field-0.0 _ (g.P.Place.steps c.args.place.now) (g.P.Place.steps c.meet.new.self) (g.P.Place.steps c.remove.new.self)
    e (c.view-path.ensures ∙ c.in_ok-file.ensures) (subst M c.in-OldFile.is c.in_ok-meet.ensures.steps) c.in_err-remove-in-OldFile.ensures.steps)

pub returns-in-OldFile : goal.returns-in-OldFile
returns-in-OldFile g c =
    let e : is_left c.args.name.now ≡ true = grind (arith, common_steps) in
    let M : What → Type 0 = λ w. g.P.Place.steps c.meet.new.self ≡ stepped (g.P.Place.steps c.args.place.now) (λ (what : What). Met c.view-path.result.now what) (answered w) in
    clear_old c.args.folder.now c.args.name.now c.view-path.result.now c.in_ok-remove-in-OldFile.field-0 (g.P.Place.steps c.args.place.now) (g.P.Place.steps c.meet.new.self) (g.P.Place.steps c.remove.new.self)
    e (c.view-path.ensures ∙ c.in_ok-file.ensures) (subst M c.in-OldFile.is c.in_ok-meet.ensures.steps) c.in_ok-remove-in-OldFile.ensures.steps

pub returns : goal.returns
returns g c =
    let e : is_left c.args.name.now ≡ true = grind (arith, common_steps) in
    let M : What → Type 0 = λ w. g.P.Place.steps c.meet.new.self ≡ stepped (g.P.Place.steps c.args.place.now) (λ (what : What). Met c.view-path.result.now what) (answered w) in
    clear_else c.args.folder.now c.args.name.now c.view-path.result.now (g.P.Place.steps c.args.place.now) (g.P.Place.steps c.meet.new.self)
    e (c.view-path.ensures ∙ c.in_ok-file.ensures) (subst M c.in-Else.is c.in_ok-meet.ensures.steps)
