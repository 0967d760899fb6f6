use Rattle.std.proofs.Common.{◌≡◌}
use Rattle.std.specs.Prelude.{None}
use Rattle.std.proofs.lemmas.Result.{err_from_is_err_and}
use Rattle.dir_remote.specs.Guard.Sentences.{sentence_of}
use Rattle.dir_remote.proofs.GuardLemmas.Passing.{unsaid}
use Rattle.dir_remote.proofs.guard.gates.stop.Goals as goal

pub returns-in_err-text-clause-stops : goal.returns-in_err-text-clause-stops
returns-in_err-text-clause-stops c =
    let p = err_from_is_err_and c.from_residual.result c.from_residual.ensures.1 in
    let never : sentence_of c.args.gate.now.want c.view.result.now c.args.seen ≡ None → ⊥ = λ none. let e = c.in_err-text.ensures.none none in cc in
    rw p.1 (unsaid (sentence_of c.args.gate.now.want c.args.gate.now.path c.args.seen) _ (λ none. never (rw c.view.ensures none)))
