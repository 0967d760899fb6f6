use Rattle.std.proofs.Common.{◌≡◌, ◌++◌, List, [], ◌∷◌, refl, sym, inl}
use Rattle.std.specs.Prelude.{codes}
use Rattle.std.specs.Fmt.{digits}
use Rattle.journal_model.specs.declared.answer.Answer.{Answer}
use Rattle.journal_model.specs.declared.answer.Answer.TheVariants.{NoChild}
use Rattle.journal_model.specs.declared.entry.Entry.{Entry}
use Rattle.journal_model.specs.declared.entry.What.TheVariants.{Claim, Mute, Answer as Answered}
use Rattle.journal_model.specs.Output.{answer_line}
use Rattle.journal_model.specs.Rows.{by_main, greeting, closed}
use Rattle.task_model.specs.TaskRuns.{failed_start}
use Rattle.run_starts.specs.Rounds.{start_untaken}
use Rattle.run_children.specs.Unserved.{IsUnserved, UnservedAnswers}
use Rattle.special_bin.specs.Laws.Rows.{gone_early, unstarted}
use Rattle.special_bin.proofs.laws.laws.nochild_is_told.Goals as goal

printed : answer_line gone_early 1 NoChild ≡ codes "1 nochild" ++ 10 ∷ []
unfolding digits
printed = refl

abbrev mute : List Entry
mute = greeting ++ by_main (Mute 1) ∷ []

abbrev before : List Entry
before = mute ++ by_main (Claim 1 0) ∷ by_main (Answered 1 NoChild) ∷ []

pub returns-clause-told : goal.returns-clause-told
returns-clause-told c =
    inl (NoChild, record { one = refl; given = refl; closed = record { past = before; closings = closed ∷ []; is = refl; answered = refl; closed = refl } }, inl (refl, sym printed))

pub returns-clause-run : goal.returns-clause-run
returns-clause-run c = record { past = mute; rest = closed ∷ []; is = refl; answers = (refl, refl, refl) }

-- nothing stands before its claim
no_start : (answer : Answer) → IsUnserved 1 unstarted 1 answer → ⊥
no_start answer z = go z.past z.is z.answers
  where
    go : (past : List Entry) → unstarted ≡ past ++ by_main (Claim 1 0) ∷ by_main (Answered 1 answer) ∷ z.rest → UnservedAnswers 1 past (failed_start past (start_untaken past)) 1 answer → ⊥
    go [] e a = let bad : 0 ≡ 1 = a.0 in cc
    go (p ∷ []) e a = let bad : [] ≡ by_main (Answered 1 answer) ∷ z.rest = cc in cc
    go (p ∷ q ∷ []) e a = let bad : [] ≡ by_main (Claim 1 0) ∷ by_main (Answered 1 answer) ∷ z.rest = cc in cc
    go (p ∷ q ∷ r ∷ ps) e a = let bad : [] ≡ r ∷ (ps ++ by_main (Claim 1 0) ∷ by_main (Answered 1 answer) ∷ z.rest) = cc in cc

pub returns-clause-unstarted : goal.returns-clause-unstarted
returns-clause-unstarted c = no_start
