use Rattle.std.proofs.Common.{refl}
use Rattle.std.specs.Char.{encode_utf8}
use Rattle.std.specs.Str.{is_utf8, chars}
use Rattle.journal_model.proofs.note_laws.who_may_note.Goals as goal

pub returns-clause-legal : goal.returns-clause-legal
unfolding is_utf8 chars encode_utf8
returns-clause-legal c = record { stands = (refl, (refl, (refl, (refl, (refl, (refl, (refl, (refl, (refl, (refl, (refl, (refl, (refl, (refl, (refl, (refl, (refl, tt))))))))))))))))); nothing_due = refl }
