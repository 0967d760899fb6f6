use Rattle.std.proofs.Common.{[], ◌∷◌, refl}
use Rattle.std.specs.Prelude.{codes}
use Rattle.std.specs.Fmt.{digits}
use Rattle.std.specs.Char.{encode_utf8}
use Rattle.std.specs.Str.{is_utf8, chars}
use Rattle.journal_model.proofs.lead_laws.exported_is_legal.Goals as goal

pub returns-clause-legal : goal.returns-clause-legal
unfolding digits is_utf8 chars encode_utf8
returns-clause-legal c = record { stands = (refl, (refl, (refl, (refl, (refl, (refl, (refl, (refl, (refl, (refl, (refl, (refl, (refl, (refl, (refl, (refl, (refl, (refl, (refl, tt))))))))))))))))))); nothing_due = refl }

pub returns-clause-talks : goal.returns-clause-talks
returns-clause-talks c = record { replied = record { lead = codes "EXPORT x y" ∷ []; leads = (codes "x y", refl); lines = refl }; answer = refl; last = refl }

pub returns-clause-unsent : goal.returns-clause-unsent
unfolding digits is_utf8 chars encode_utf8
returns-clause-unsent c = record { stands = (refl, (refl, (refl, (refl, (refl, (refl, (refl, (refl, (refl, (refl, (refl, (refl, (refl, (refl, (refl, (refl, (refl, tt))))))))))))))))); nothing_due = refl }
