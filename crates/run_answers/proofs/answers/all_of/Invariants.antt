use Rattle.std.proofs.Common.{◌≡◌, Some, take}
use Rattle.std.specs.Prelude.{map}
use Rattle.journal_model.specs.declared.answer.Answer.{Answer}
use Rattle.run_answers.proofs.answers.all_of.Given as goal

abbrev pub invariant-loop-place : goal.invariant-loop-place
invariant-loop-place l = map (λ (a : Answer). Some a) l.answers.items ≡ take l.place-index l.places
