-- What goes to a sink of whole lines: what is written to it, and what a remote says while it works on a request.
use Rattle.std.specs.Prelude.{ℕ, ◌≡◌, ◌⊎◌, true, false, List, [], ◌∷◌, ◌++◌, take, Result, Ok, Err}
use Rattle.std.specs.Io.KnownBytes.{Appends}
use Rattle.ann_outside.specs.Causes.{Rose, StaysUntold}
use Rattle.ann_outside.specs.Told.{SinkTold}
use Rattle.annex_model.specs.Lines.{has_newline}
use Rattle.annex_model.specs.Messages.{RemoteMessage, remote_line}
use Rattle.kit_serve.specs.declared.telling.NotTold.{NotTold}
use Rattle.kit_serve.specs.declared.telling.NotTold.TheVariants.{NoMemory, Failed}
use Rattle.kit_serve.specs.LineSinks.{LineSinkValue}

-- the sink took the bytes, all of them
pub record TakesAll {W : Type 0} (told : W → SinkTold) (old new : LineSinkValue W) (bytes : List ℕ) : Type 0 where
  pub was_live : old.is_over ≡ false
  pub took : Appends (told old.sink).taken (told new.sink).taken bytes
  pub silent : StaysUntold (told old.sink).taken (told new.sink).taken
  pub live : new.is_over ≡ false
  pub quiet : (told new.sink).faults ≡ (told old.sink).faults

-- writing failed: the sink took the first of them, and takes nothing more
pub record TakesFirst {W : Type 0} (told : W → SinkTold) (old new : LineSinkValue W) (bytes : List ℕ) : Type 0 where
  pub was_live : old.is_over ≡ false
  pub n : ℕ
  pub took : Appends (told old.sink).taken (told new.sink).taken (take n bytes)
  pub silent : StaysUntold (told old.sink).taken (told new.sink).taken
  pub over : new.is_over ≡ true
  pub rose : Rose (told old.sink).faults (told new.sink).faults

-- an error comes where it takes nothing more, and then nothing is done; or writing failed
abbrev pub Says : {W T E : Type 0} → (W → SinkTold) → LineSinkValue W → LineSinkValue W → List ℕ → Result T E → Type 0
Says told old new bytes (Ok x) = TakesAll told old new bytes
Says told old new bytes (Err e) = ((old.is_over ≡ true) × (new ≡ old)) ⊎ TakesFirst told old new bytes

-- the message's line and its end
abbrev pub line_of : RemoteMessage → List ℕ
line_of m = remote_line m ++ 10 ∷ []

-- the message was said, and is one line; out of memory, nothing was said
abbrev pub Tells : {W T : Type 0} → (W → SinkTold) → LineSinkValue W → LineSinkValue W → RemoteMessage → Result T NotTold → Type 0
Tells told old new m (Ok x) = Says {E = NotTold} told old new (line_of m) (Ok x) × (has_newline (remote_line m) ≡ false)
Tells told old new m (Err NoMemory) = new ≡ old
Tells {T = T} told old new m (Err Failed) = Says {T = T} {E = NotTold} told old new (line_of m) (Err Failed)
