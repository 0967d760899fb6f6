use Rattle.std.proofs.Common.{refl}
use Rattle.std.specs.Fmt.{digits}
use Rattle.journal_model.proofs.reply_laws.answered_apart.Goals as goal

pub returns-clause-jobs : goal.returns-clause-jobs
unfolding digits
returns-clause-jobs c = record { stands = (refl, (refl, (refl, (refl, (refl, (refl, (refl, (refl, (refl, (refl, (refl, (refl, (refl, (refl, (refl, (refl, (refl, (refl, (refl, (refl, (refl, tt))))))))))))))))))))); nothing_due = refl }
