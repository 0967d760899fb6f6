-- What printing a text does to a sink.
use Rattle.std.specs.Prelude.{ℕ, ◌≡◌, ◌⊎◌, List, Result, OnOk, OnErr}
use Rattle.std.specs.Io.KnownBytes.{Appends}
use Rattle.ann_outside.specs.Causes.{Rose}
use Rattle.ann_outside.specs.Told.{SinkTold}

-- all of it was taken, and nothing failed
pub record IsWhole (old new : SinkTold) (text : List ℕ) : Type 0 where
  pub taken : Appends old.taken new.taken text
  pub faults : new.faults ≡ old.faults

abbrev pub Writes : {T E : Type 0} → SinkTold → SinkTold → List ℕ → Result T E → Type 0
Writes old new text result = OnOk result (IsWhole old new text) × OnErr result (Rose old.faults new.faults)

-- the status is the one that is wanted, or 5 where a write failed
abbrev pub IsPrinted : SinkTold → SinkTold → List ℕ → ℕ → ℕ → Type 0
IsPrinted old new text wanted status = ((status ≡ wanted) × IsWhole old new text) ⊎ ((status ≡ 5) × Rose old.faults new.faults)
