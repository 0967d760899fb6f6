use Rattle.std.proofs.Common.{[], ◌∷◌, ◌++◌, refl}
use Rattle.std.specs.Prelude.{codes}
use Rattle.annex_model.specs.Talks.{Remote}
use Rattle.journal_model.specs.Rows.{sample_key}
use Rattle.journal_model.proofs.laws.check_present_talks.Goals as goal

pub returns-clause-front : goal.returns-clause-front
returns-clause-front c = record {
  more = record { side = Remote; at = 13; text = codes "CHECKPRESENT-SUCCESS " ++ sample_key } ∷ [];
  begun = λ e. cc;
  goes_on = record { replied = record { lead = []; leads = refl; lines = refl }; answer = refl; last = refl };
  replied = refl;
}
