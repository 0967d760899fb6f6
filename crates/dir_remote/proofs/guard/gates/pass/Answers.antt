use Rattle.std.proofs.Common.{arith, subst, add-one, Ok}
use Rattle.std.specs.Prelude.{Option}
use Rattle.std.proofs.lemmas.Result.{err_from_is_err_and}
use Rattle.kit_serve.specs.declared.kit.call.Said.{Said}
use Rattle.dir_remote.specs.Guard.Gates.{StopsBy}
use Rattle.dir_remote.specs.Guard.Sentences.{sentence_of}
use Rattle.dir_remote.proofs.GuardLemmas.Passing.{pass_stopped, pass_unsaid, pass_short, pass_goes_on}
use Rattle.dir_remote.proofs.guard.gates.pass.Goals as goal

pub returns-in-Some-clause-passed : goal.returns-in-Some-clause-passed
returns-in-Some-clause-passed g c =
    let S : Option Said → Type 0 = λ o. StopsBy (sentence_of c.gate-item.result.want c.gate-item.result.path c.in_ok-seen.seen) (Ok o) in
    pass_stopped c.args.gates.now c.loop-gate.gate-index c.gate-item.result c.view.result.now c.in_ok-seen.seen c.in-Some.said (g.P.Place.steps c.args.place.now) (g.P.Place.steps c.loop-gate.place) (g.P.Place.steps c.stand.new.self)
    (omega arith) c.gate-item.is c.view.ensures c.loop-gate.invariant c.in_ok-seen.ensures.steps (subst S c.in-Some.is c.in_ok-said.ensures.stops)

pub returns-in_err-seen-clause-passed : goal.returns-in_err-seen-clause-passed
returns-in_err-seen-clause-passed g c =
    let p = err_from_is_err_and c.from_residual.result c.from_residual.ensures.1 in
    rw p.1 (pass_short c.args.gates.now c.loop-gate.gate-index c.gate-item.result c.view.result.now c.in_err-seen.field-0.0 _ (g.P.Place.steps c.args.place.now) (g.P.Place.steps c.loop-gate.place) (g.P.Place.steps c.stand.new.self)
    (omega arith) c.gate-item.is c.view.ensures c.loop-gate.invariant c.in_err-seen.ensures.steps)

pub returns-in_err-said-clause-passed : goal.returns-in_err-said-clause-passed
returns-in_err-said-clause-passed g c =
    let p = err_from_is_err_and c.from_residual-in_err-said.result c.from_residual-in_err-said.ensures.1 in
    rw p.1 (pass_unsaid c.args.gates.now c.loop-gate.gate-index c.gate-item.result c.view.result.now c.in_ok-seen.seen c.in_err-said.field-0.0 _ (g.P.Place.steps c.args.place.now) (g.P.Place.steps c.loop-gate.place) (g.P.Place.steps c.stand.new.self)
    (omega arith) c.gate-item.is c.view.ensures c.loop-gate.invariant c.in_ok-seen.ensures.steps c.in_err-said.ensures.stops)

pub loop-gate-preserved : goal.loop-gate-preserved
loop-gate-preserved g c =
    let S : Option Said → Type 0 = λ o. StopsBy (sentence_of c.gate-item.result.want c.gate-item.result.path c.in_ok-seen.seen) (Ok o) in
    rw add-one
    (pass_goes_on c.args.gates.now c.loop-gate.gate-index c.gate-item.result c.view.result.now c.in_ok-seen.seen (g.P.Place.steps c.args.place.now) (g.P.Place.steps c.loop-gate.place) (g.P.Place.steps c.stand.new.self)
    (omega arith) c.gate-item.is c.view.ensures c.loop-gate.invariant c.in_ok-seen.ensures.steps (subst S c.in_default.is c.in_ok-said.ensures.stops))
