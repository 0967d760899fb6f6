use Rattle.std.proofs.Common.{◌≡◌, ◌++◌, [], ◌∷◌, refl, sym, inl}
use Rattle.std.specs.Prelude.{codes}
use Rattle.std.specs.Fmt.{digits}
use Rattle.journal_model.specs.declared.verdict.Why.TheVariants.{Error}
use Rattle.journal_model.specs.declared.answer.Answer.TheVariants.{Ended}
use Rattle.journal_model.specs.Output.{answer_line}
use Rattle.journal_model.specs.Rows.{out_of_disk}
use Rattle.special_bin.proofs.LawsLemmas.Alone.{told_alone}
use Rattle.special_bin.proofs.laws.laws.error_is_told.Goals as goal

printed : answer_line out_of_disk 1 (Ended (Error 13)) ≡ codes "1 ended error out of disk" ++ 10 ∷ []
unfolding digits
printed = refl

pub returns-clause-told : goal.returns-clause-told
returns-clause-told c =
    inl (Ended (Error 13), record { one = refl; given = refl; closed = record { past = out_of_disk; closings = []; is = refl; answered = refl; closed = refl } }, inl (refl, sym printed))

pub returns-clause-alone : goal.returns-clause-alone
returns-clause-alone c = λ status out answer told. told_alone status out out_of_disk (Ended (Error 13)) answer refl told
