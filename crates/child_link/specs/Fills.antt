-- What one read of a child's output does to an ear.
use Rattle.std.specs.Prelude.{ℕ, ◌≡◌, ◌<◌, ◌≤◌, ◌++◌, length, Bool, true, false, List, Option, None}
use Rattle.std.specs.Io.KnownBytes.{Appends}
use Rattle.ann_outside.specs.Told.{SourceTold}
use Rattle.wire_line.specs.HeldBytes.{TakesPiece}
use Rattle.child_link.specs.declared.ear.Fill.{Fill}
use Rattle.child_link.specs.declared.ear.Fill.TheVariants.{Got, End, Fault, NoRoom}
use Rattle.journal_model.specs.Halves.{EarValue}

-- the child, what its outlet tells, and what is held of it
abbrev pub ear_value : ℕ → SourceTold → List ℕ → EarValue
ear_value child outlet held =
    record { child = child; given = outlet.given; left = outlet.left; faults = outlet.faults; number = outlet.number; held = held }

abbrev pub is_got : Fill → Bool
is_got Got = true
is_got End = false
is_got Fault = false
is_got NoRoom = false

-- the piece that was read, which may be empty, is told and is held
pub record ReadsOn (given given' : Option (List ℕ)) (held held' : List ℕ) : Type 0 where
  pub piece : List ℕ
  pub told : Appends given given' piece
  pub silent : given ≡ None → given' ≡ None
  pub cut : TakesPiece held piece held'

-- at least a byte came after what was held, and at most so many
pub record GrowsBy (most : ℕ) (old new : List ℕ) : Type 0 where
  pub piece : List ℕ
  pub some : 0 < length piece
  pub few : length piece ≤ most
  pub is : new ≡ old ++ piece

-- child and start stay
pub record Fills (old new : EarValue) : Type 0 where
  pub same : new ≡ record old { given = new.given; left = new.left; faults = new.faults; held = new.held }
  pub reads : ReadsOn old.given new.given old.held new.held
