-- What a call leaves of the core beside its journal.
use Rattle.std.specs.Prelude.{◌≡◌}
use Rattle.journal_model.specs.Legality.{Legal}
use Rattle.host_core.specs.CoreValue.{CoreValue}

-- the run began with the same, and a legal journal is still legal
pub record IsSameCore (old new : CoreValue) : Type 0 where
  pub opening : new.opening ≡ old.opening
  pub legal : Legal old.opening old.journal → Legal new.opening new.journal
