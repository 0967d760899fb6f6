-- A check whose child is lost, as an example of a task that is run again.
use Rattle.std.specs.Prelude.{ℕ, List, [], ◌∷◌, ◌++◌}
use Rattle.journal_model.specs.declared.verdict.Why.TheVariants.{Eof}
use Rattle.journal_model.specs.declared.verdict.Verdict.TheVariants.{Ended}
use Rattle.journal_model.specs.declared.answer.Answer.{Answer}
use Rattle.journal_model.specs.declared.answer.Answer.TheVariants.{Ended as EndedAnswer}
use Rattle.journal_model.specs.declared.entry.What.TheVariants.{Claim, End, Verdict as Settled, Again}
use Rattle.journal_model.specs.declared.entry.Entry.{Entry}
use Rattle.journal_model.specs.declared.opening.Opening.{Opening}
use Rattle.journal_model.specs.Rows.{asking, by_main, check_of, greeting, opening_of, sample_key}

-- one check, which may be run again so often
abbrev pub one_check_again : ℕ → Opening
one_check_again n = record (opening_of (check_of sample_key ∷ [])) { again = n }

abbrev pub lost_answer : Answer
lost_answer = EndedAnswer Eof

-- the child ends under it
abbrev pub lost : List Entry
lost = greeting ++ asking ++ by_main (End 1 Eof) ∷ by_main (Settled 1 2 (Ended Eof)) ∷ []

abbrev pub renewed : List Entry
renewed = lost ++ by_main (Again 1 lost_answer) ∷ []

-- it is claimed again, for that child, or without one
abbrev pub claimed_again : ℕ → List Entry
claimed_again child = renewed ++ by_main (Claim 1 child) ∷ []
