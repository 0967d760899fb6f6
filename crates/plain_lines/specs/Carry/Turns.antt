-- What one line and one read do.
use Rattle.std.specs.Prelude.{ℕ, ◌≡◌, ◌≤◌, true, List, [], take, Option, Some, None, Result, Ok, Err, IfSome}
use Rattle.std.specs.Io.KnownBytes.{Appends}
use Rattle.ann_outside.specs.Causes.{Rose, StaysUntold}
use Rattle.ann_outside.specs.Told.{SinkTold, SourceTold}
use Rattle.wire_line.specs.HeldBytes.{TakesPiece}
use Rattle.plain_lines.specs.Carry.Carries.{Passing, passed_text}
use Rattle.plain_lines.specs.declared.carry.end.End.{End}
use Rattle.plain_lines.specs.declared.carry.end.End.TheVariants.{Eof, Long, ReadFault, WriteFault, Memory}

-- the piece that was read, which may be empty, is told and is held
pub record ReadsOn (given given' : Option (List ℕ)) (held held' : List ℕ) : Type 0 where
  pub piece : List ℕ
  pub told : Appends given given' piece
  pub silent : StaysUntold given given'
  pub cut : TakesPiece held piece held'

-- what is passed on of the line was written
pub record Writes (P : Passing) (taken taken' : Option (List ℕ)) (line : List ℕ) : Type 0 where
  pub passed : Option (List ℕ)
  pub may : P line passed
  pub took : Appends taken taken' (passed_text passed)
  pub silent : StaysUntold taken taken'

-- and only its first bytes were
pub record Falters (P : Passing) (taken taken' : Option (List ℕ)) (line : List ℕ) : Type 0 where
  pub passed : Option (List ℕ)
  pub n : ℕ
  pub may : P line passed
  pub took : Appends taken taken' (take n (passed_text passed))
  pub silent : StaysUntold taken taken'

abbrev pub Passes : {T : Type 0} → Passing → Option (List ℕ) → Option (List ℕ) → List ℕ → Result T End → Type 0
Passes P taken taken' line (Ok x) = Writes P taken taken' line
Passes P taken taken' line (Err WriteFault) = Falters P taken taken' line
Passes P taken taken' line (Err Memory) = taken' ≡ taken
Passes P taken taken' line (Err Eof) = ⊥
Passes P taken taken' line (Err Long) = ⊥
Passes P taken taken' line (Err ReadFault) = ⊥

-- ---- ends, and their causes

-- why a call ended, if it did
abbrev pub end_of : {T : Type 0} → Result T End → Option End
end_of (Ok x) = None
end_of (Err end) = Some end

-- The source is open still. Where its lines came to an end it has nothing left. Its count of faults rose where reading failed, and
-- never falls.
pub record LeavesSource (old new : SourceTold) (why : Option End) : Type 0 where
  pub end : why ≡ Some Eof → IfSome new.left (λ bytes. bytes ≡ [])
  pub read_fault : why ≡ Some ReadFault → Rose old.faults new.faults
  pub later : old.faults ≤ new.faults
  pub opened : new.is_open ≡ true

-- The sink is open still. Its count of faults rose where writing failed, and never falls.
pub record LeavesSink (old new : SinkTold) (why : Option End) : Type 0 where
  pub write_fault : why ≡ Some WriteFault → Rose old.faults new.faults
  pub later : old.faults ≤ new.faults
  pub opened : new.is_open ≡ true
