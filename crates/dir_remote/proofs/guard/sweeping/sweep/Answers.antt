use Rattle.std.proofs.Common.{◌≡◌, ◌∙◌, subst}
use Rattle.dir_remote.specs.Guard.Steps.{stepped}
use Rattle.dir_remote.specs.declared.guard.place.Seen.{Seen}
use Rattle.dir_remote.specs.declared.guard.place.Step.TheVariants.{Stood}
use Rattle.dir_remote.specs.declared.guard.place.Want.TheVariants.{Way}
use Rattle.dir_remote.proofs.GuardLemmas.Clearing.{sweeps_listed, sweeps_skips}
use Rattle.dir_remote.proofs.GuardLemmas.Passing.{answered}
use Rattle.dir_remote.proofs.guard.sweeping.sweep.Goals as goal

pub returns-in-Fits : goal.returns-in-Fits
returns-in-Fits g c =
    let S : Seen → Type 0 = λ seen. g.P.Place.steps c.stand.new.self ≡ stepped (g.P.Place.steps c.args.place.now) (λ (s : Seen). Stood Way c.view-path.result.now s) (answered seen) in
    sweeps_listed c.args.directory.now c.view-path.result.now c.clear_listed.result (g.P.Place.steps c.args.place.now) (g.P.Place.steps c.stand.new.self) (g.P.Place.steps c.clear_listed.new.place)
    (c.view-path.ensures ∙ c.in_ok-folder.ensures) (subst S c.in-Fits.is c.in_ok-stand.ensures.steps) c.clear_listed.ensures

pub returns : goal.returns
returns g c =
    sweeps_skips c.args.directory.now c.view-path.result.now c.in_ok-stand.field-0 (g.P.Place.steps c.args.place.now) (g.P.Place.steps c.stand.new.self)
    (c.view-path.ensures ∙ c.in_ok-folder.ensures) c.in_default.not-Fits c.in_ok-stand.ensures.steps
