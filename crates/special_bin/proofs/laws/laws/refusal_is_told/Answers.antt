use Rattle.std.proofs.Common.{◌≡◌, ◌++◌, List, [], ◌∷◌, refl, sym, inl}
use Rattle.std.specs.Prelude.{codes}
use Rattle.std.specs.Fmt.{digits}
use Rattle.journal_model.specs.declared.verdict.Verdict.TheVariants.{Failed}
use Rattle.journal_model.specs.declared.answer.Answer.TheVariants.{NotPrepared}
use Rattle.journal_model.specs.declared.entry.Entry.{Entry}
use Rattle.journal_model.specs.declared.entry.What.TheVariants.{Claim, Got, Verdict as Settled, Answer as Answered}
use Rattle.journal_model.specs.Output.{answer_line}
use Rattle.journal_model.specs.Rows.{by_main, introduced, closed, no_disk}
use Rattle.special_bin.proofs.LawsLemmas.Alone.{told_alone}
use Rattle.special_bin.proofs.laws.laws.refusal_is_told.Goals as goal

printed : answer_line no_disk 1 (NotPrepared 8) ≡ codes "1 notprepared no disk" ++ 10 ∷ []
unfolding digits
printed = refl

abbrev refused : List Entry
refused = introduced ++ by_main (Got 1 (codes "PREPARE-FAILURE no disk")) ∷ by_main (Settled 1 1 (Failed 8)) ∷ []

abbrev before : List Entry
before = refused ++ by_main (Claim 1 0) ∷ by_main (Answered 1 (NotPrepared 8)) ∷ []

pub returns-clause-told : goal.returns-clause-told
returns-clause-told c =
    inl (NotPrepared 8, record { one = refl; given = refl; closed = record { past = before; closings = closed ∷ []; is = refl; answered = refl; closed = refl } }, inl (refl, sym printed))

pub returns-clause-run : goal.returns-clause-run
returns-clause-run c = record { past = refused; rest = closed ∷ []; is = refl; answers = refl }

pub returns-clause-alone : goal.returns-clause-alone
returns-clause-alone c = λ status out answer told. told_alone status out no_disk (NotPrepared 8) answer refl told
