use Rattle.std.proofs.Common.{◌≡◌, Option, take}
use Rattle.std.specs.Prelude.{filter_map}
use Rattle.journal_model.specs.declared.answer.Answer.{Answer}
use Rattle.run_answers.proofs.answers.some_of.Given as goal

abbrev pub invariant-loop-place : goal.invariant-loop-place
invariant-loop-place l = l.answers.items ≡ filter_map (λ (p : Option Answer). p) (take l.place-index l.places)
