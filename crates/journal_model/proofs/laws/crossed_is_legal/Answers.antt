use Rattle.std.proofs.Common.{refl}
use Rattle.std.specs.Fmt.{digits}
use Rattle.journal_model.proofs.laws.crossed_is_legal.Goals as goal

pub returns-clause-legal : goal.returns-clause-legal
unfolding digits
returns-clause-legal c = record { stands = (refl, (refl, (refl, (refl, (refl, (refl, (refl, (refl, (refl, (refl, (refl, (refl, (refl, (refl, (refl, (refl, (refl, (refl, (refl, (refl, (refl, tt))))))))))))))))))))); nothing_due = refl }

pub returns-clause-unknown : goal.returns-clause-unknown
unfolding digits
returns-clause-unknown c = record { stands = (refl, (refl, (refl, (refl, (refl, (refl, (refl, (refl, (refl, (refl, (refl, (refl, (refl, (refl, (refl, (refl, (refl, (refl, tt)))))))))))))))))); nothing_due = refl }

pub returns-clause-left_off : goal.returns-clause-left_off
unfolding digits
returns-clause-left_off c = record { stands = (refl, (refl, (refl, (refl, (refl, (refl, (refl, (refl, (refl, (refl, (refl, (refl, (refl, (refl, (refl, (refl, (refl, (refl, tt)))))))))))))))))); nothing_due = refl }
