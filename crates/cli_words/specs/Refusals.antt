-- Why a key is refused.
use Rattle.std.specs.Prelude.{ℕ, ◌≡◌, not, if◌then◌else◌, List, Option, Some, None, is_some, option_and_then, IsTrue}
use Rattle.ann_key.specs.Keys.{Parts, IsKey, key_reading, is_sendable}
use Rattle.cli_words.specs.declared.refusals.Reason.{Reason}
use Rattle.cli_words.specs.declared.refusals.Reason.TheVariants.{Key, Unsendable, ChunkKey}

-- the first that holds of the bytes and of the parts that they spell
abbrev pub refusal_in : List ℕ → Option Parts → Option Reason
refusal_in bytes None = Some Key
refusal_in bytes (Some parts) =
    if not (is_sendable bytes) then Some Unsendable
    else if is_some parts.chunk then Some ChunkKey
    else None

abbrev pub reason_refused : List ℕ → Option Reason
reason_refused bytes = refusal_in bytes (key_reading bytes)

-- a key that isn't given isn't refused
abbrev pub refusal_if : Option (List ℕ) → Option Reason
refusal_if key = option_and_then reason_refused key

-- what is refused so is left out
abbrev pub unless : {X : Type 0} → Option Reason → X → Option X
unless None x = Some x
unless (Some reason) x = None

-- the bytes spell a key that can stand in a request and has no chunk fields
pub record IsTaskKey (bytes : List ℕ) : Type 0 where
  pub parts : Parts
  pub key : IsKey bytes parts
  pub sendable : IsTrue (is_sendable bytes)
  pub whole : parts.chunk ≡ None
