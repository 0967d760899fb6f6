use Rattle.std.proofs.Common.{◌≡◌, ◌++◌, List, [], ◌∷◌, refl, sym, inl}
use Rattle.std.specs.Prelude.{codes}
use Rattle.std.specs.Fmt.{digits}
use Rattle.journal_model.specs.declared.verdict.Verdict.TheVariants.{Unknown as UnknownAt}
use Rattle.journal_model.specs.declared.answer.Answer.TheVariants.{Unknown}
use Rattle.journal_model.specs.declared.entry.Entry.{Entry}
use Rattle.journal_model.specs.declared.entry.What.TheVariants.{Got, Verdict as Settled, Answer as Answered}
use Rattle.journal_model.specs.Output.{answer_line}
use Rattle.journal_model.specs.Rows.{sample_key, by_main, checking, closed, away}
use Rattle.special_bin.proofs.LawsLemmas.Alone.{told_alone}
use Rattle.special_bin.proofs.laws.laws.unknown_is_told.Goals as goal

printed : answer_line away 1 (Unknown 15) ≡ codes "1 unknown away" ++ 10 ∷ []
unfolding digits
printed = refl

abbrev before : List Entry
before =
    checking
    ++ by_main (Got 1 (codes "PROGRESS 10")) ∷ by_main (Got 1 (codes "DEBUG x")) ∷ by_main (Got 1 (codes "CHECKPRESENT-UNKNOWN " ++ sample_key ++ codes " away"))
    ∷ by_main (Settled 1 2 (UnknownAt 15)) ∷ by_main (Answered 1 (Unknown 15)) ∷ []

pub returns-clause-told : goal.returns-clause-told
returns-clause-told c =
    inl (Unknown 15, record { one = refl; given = refl; closed = record { past = before; closings = closed ∷ []; is = refl; answered = refl; closed = refl } }, inl (refl, sym printed))

pub returns-clause-alone : goal.returns-clause-alone
returns-clause-alone c = λ status out answer told. told_alone status out away (Unknown 15) answer refl told
