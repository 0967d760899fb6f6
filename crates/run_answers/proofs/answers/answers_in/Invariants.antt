use Rattle.std.proofs.Common.{take}
use Rattle.run_answers.specs.Answering.{HoldsAnswers}
use Rattle.run_answers.proofs.answers.answers_in.Given as goal

abbrev pub invariant-loop-at : goal.invariant-loop-at
invariant-loop-at l = HoldsAnswers l.tasks (take l.at l.journal.entries) l.places.items
