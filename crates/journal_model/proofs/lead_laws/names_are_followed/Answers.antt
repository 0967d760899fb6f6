use Rattle.std.proofs.Common.{refl}
use Rattle.std.specs.Fmt.{digits}
use Rattle.std.specs.Char.{encode_utf8}
use Rattle.std.specs.Str.{is_utf8, chars}
use Rattle.journal_model.proofs.lead_laws.names_are_followed.Goals as goal

pub returns-clause-answered : goal.returns-clause-answered
unfolding digits is_utf8 chars encode_utf8
returns-clause-answered c = record { there = refl; before = (refl, (refl, (refl, (refl, (refl, (refl, (refl, (refl, (refl, (refl, (refl, (refl, tt)))))))))))); wrong = λ h. cc }

pub returns-clause-alone : goal.returns-clause-alone
unfolding digits is_utf8 chars encode_utf8
returns-clause-alone c = record { stands = (refl, (refl, (refl, (refl, (refl, (refl, (refl, (refl, (refl, (refl, (refl, (refl, tt)))))))))))); due = λ h. cc }

pub returns-clause-nameless : goal.returns-clause-nameless
unfolding digits is_utf8 chars encode_utf8
returns-clause-nameless c = record { there = refl; before = (refl, (refl, (refl, (refl, (refl, (refl, (refl, (refl, (refl, (refl, (refl, tt))))))))))); wrong = λ h. cc }

pub returns-clause-twice : goal.returns-clause-twice
unfolding digits is_utf8 chars encode_utf8
returns-clause-twice c = record { there = refl; before = (refl, (refl, (refl, (refl, (refl, (refl, (refl, (refl, (refl, (refl, (refl, (refl, tt)))))))))))); wrong = λ h. cc }

pub returns-clause-other : goal.returns-clause-other
unfolding digits is_utf8 chars encode_utf8
returns-clause-other c = record { there = refl; before = (refl, (refl, (refl, (refl, (refl, (refl, (refl, (refl, (refl, (refl, (refl, (refl, tt)))))))))))); wrong = λ h. cc }

pub returns-clause-other_job : goal.returns-clause-other_job
unfolding digits is_utf8 chars encode_utf8
returns-clause-other_job c = record { there = refl; before = (refl, (refl, (refl, (refl, (refl, (refl, (refl, (refl, (refl, (refl, (refl, (refl, tt)))))))))))); wrong = λ h. cc }

pub returns-clause-by_other : goal.returns-clause-by_other
unfolding digits is_utf8 chars encode_utf8
returns-clause-by_other c = record { there = refl; before = (refl, (refl, (refl, (refl, (refl, (refl, (refl, (refl, (refl, (refl, (refl, (refl, tt)))))))))))); wrong = λ h. cc }

pub returns-clause-late : goal.returns-clause-late
unfolding digits is_utf8 chars encode_utf8
returns-clause-late c = record { there = refl; before = (refl, (refl, (refl, (refl, (refl, (refl, (refl, (refl, (refl, (refl, (refl, (refl, (refl, tt))))))))))))); wrong = λ h. cc }
