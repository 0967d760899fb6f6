-- What one turn does: it answers a line, or reads once.
use Rattle.std.specs.Prelude.{ℕ, ◌≡◌, ◌<◌, ◌≤◌, ◌⊎◌, length, OnOk, Bool, true, false, List, [], ◌∷◌, ◌++◌, Option, Some, None, option_map, Result, Ok, Err, IfSome}
use Rattle.std.specs.Io.KnownBytes.{Appends}
use Rattle.ann_outside.specs.Causes.{Rose, StaysUntold}
use Rattle.ann_outside.specs.Told.{SinkTold, SourceTold}
use Rattle.wire_line.specs.HeldBytes.{has_line, TakesPiece}
use Rattle.kit_serve.specs.Limits.{longest_line, read_size}
use Rattle.kit_serve.specs.declared.end.End.{End}
use Rattle.kit_serve.specs.declared.end.End.TheVariants.{Eof, ReadFault}

-- the piece that was read is told and is held. It is empty only where the reading ended
pub record ReadsOn {T : Type 0} (given given' : Option (List ℕ)) (held held' : List ℕ) (result : Result T End) : Type 0 where
  pub piece : List ℕ
  pub told : Appends given given' piece
  pub silent : StaysUntold given given'
  pub cut : TakesPiece held piece held'
  pub some : OnOk result (0 < length piece)

-- one read more of that size, or none
abbrev pub ReadsOnce : Option (List ℕ) → Option (List ℕ) → Type 0
ReadsOnce rooms rooms' = (rooms' ≡ rooms) ⊎ (rooms' ≡ option_map (λ told. told ++ read_size ∷ []) rooms)

-- what a turn sees of a source and a sink
pub record Streams : Type 0 where
  pub rooms : Option (List ℕ)
  pub given : Option (List ℕ)
  pub taken : Option (List ℕ)
  pub flushed : Bool

abbrev pub streams_of : Option (List ℕ) → SourceTold → SinkTold → Bool → Streams
streams_of rooms source sink flushed = record { rooms = rooms; given = source.given; taken = sink.taken; flushed = flushed }

-- Where a whole line is held nothing is read. Where none is, nothing is written, and at most one read is made.
pub record Turned (old new : Streams) (held : List ℕ) : Type 0 where
  pub at_line : has_line longest_line held ≡ true → (new.rooms ≡ old.rooms) × (new.given ≡ old.given)
  pub at_read : has_line longest_line held ≡ false → (new.taken ≡ old.taken) × (new.flushed ≡ old.flushed) × ReadsOnce old.rooms new.rooms

-- ---- ends, and their causes

-- why a call ended, if it did
abbrev pub end_of : {T : Type 0} → Result T End → Option End
end_of (Ok x) = None
end_of (Err end) = Some end

-- what is seen of a source or a sink at its end
pub record Half : Type 0 where
  pub faults : ℕ
  pub is_open : Bool
  pub number : Option ℕ

abbrev pub source_half : SourceTold → Half
source_half told = record { faults = told.faults; is_open = told.is_open; number = told.number }

abbrev pub sink_half : SinkTold → Half
sink_half told = record { faults = told.faults; is_open = told.is_open; number = told.number }

-- still open, with its number; its count rose if this end came, and else stays
pub record Leaves (old new : Half) (fault : Type 0) : Type 0 where
  pub later : old.faults ≤ new.faults
  pub cause : fault → Rose old.faults new.faults
  pub quiet : (fault → ⊥) → new.faults ≡ old.faults
  pub opened : new.is_open ≡ true
  pub number : new.number ≡ old.number

-- the end of the host's lines comes only where the source has nothing left
abbrev pub IsSpent : Option End → Option (List ℕ) → Type 0
IsSpent end left = end ≡ Some Eof → IfSome left (λ bytes. bytes ≡ [])

-- So a source is left by what came to this end, or to none.
pub record LeavesSource (old new : SourceTold) (end : Option End) : Type 0 where
  pub spent : IsSpent end new.left
  pub leaves : Leaves (source_half old) (source_half new) (end ≡ Some ReadFault)

-- ---- where a turn may be taken

-- The source and the sink are open, a host's line may be so long, the voice isn't over, and all that the sink took was handed on.
pub record MayTurn (source : SourceTold) (sink : SinkTold) (is_flushed is_over : Bool) (longest : ℕ) : Type 0 where
  pub opened : (source.is_open ≡ true) × (sink.is_open ≡ true)
  pub limit : longest ≡ longest_line
  pub live : is_over ≡ false
  pub flushed : is_flushed ≡ true
