use Rattle.std.proofs.Common.{◌≡◌, ◌∙◌, ◌++◌, List, Option, ap, sym, arith}
use Rattle.std.specs.Prelude.{filter_map}
use Rattle.std.proofs.lemmas.List.{take_all}
use Rattle.journal_model.specs.declared.answer.Answer.{Answer}
use Rattle.run_answers.specs.Answering.{held_by}
use Rattle.run_answers.proofs.Giving.{some_more}
use Rattle.run_answers.proofs.answers.some_of.Goals as goal

pub loop-place-preserved : goal.loop-place-preserved
loop-place-preserved c =
    c.in_ok-push_some.ensures ∙ ap (λ (xs : List Answer). xs ++ held_by c.place-item.result) c.loop-place.invariant
    ∙ sym (some_more c.args.places.now c.loop-place.place-index c.place-item.result c.loop-place-test.true c.place-item.is)

pub returns : goal.returns
returns c = c.loop-place.invariant ∙ ap (filter_map (λ (o : Option Answer). o)) (take_all c.loop-place.place-index c.args.places.now (omega arith))
