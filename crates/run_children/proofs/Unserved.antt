-- Tasks that are claimed without a child and answered at once.
use Rattle.std.proofs.Common.{ℕ, ◌+◌, List, ◌∷◌, ◌++◌, ap, refl, subst, sym, ◌∙◌, append_assoc, Option}
use Rattle.journal_model.specs.declared.answer.Answer.{Answer}
use Rattle.journal_model.specs.declared.entry.What.TheVariants.{Claim, Answer as Answered}
use Rattle.journal_model.specs.declared.entry.Entry.{Entry}
use Rattle.run_starts.specs.Stints.{FailedRun, main_entry}
use Rattle.run_children.specs.Unserved.{IsUnserved, UnservedAnswers}

pub unserved_lasts : (limit : ℕ) (past more : List Entry) (t : ℕ) (answer : Answer) → IsUnserved limit past t answer → IsUnserved limit (past ++ more) t answer
unserved_lasts limit past more t answer z = record {
  past = z.past;
  rest = z.rest ++ more;
  is = ap (λ (x : List Entry). x ++ more) z.is ∙ append_assoc z.past (main_entry (Claim t 0) ∷ main_entry (Answered t answer) ∷ z.rest) more;
  answers = z.answers;
}

-- one that was answered by what came of a start
pub failed_unserved : (limit : ℕ) (journal : List Entry) (t : ℕ) (answer : Answer) → FailedRun journal t answer → IsUnserved limit journal t answer
failed_unserved limit journal t answer z = record {
  past = z.past;
  rest = z.rest;
  is = z.is;
  answers = subst (λ (x : Option Answer). UnservedAnswers limit z.past x t answer) (sym z.failed) refl;
}
